-- `text::form_of` meets its contract. Assumes nothing.
use Rattle.std.proofs.Common.{◌≡◌, ◌+◌, ◌≤◌, length}
use Rattle.text.specs.Form.{events_form, form_of}
use Rattle.text.proofs.form_of.Given as goal

-- the form is that of what is left, and so many events were read at most
abbrev pub invariant-loop-rest : goal.invariant-loop-rest
invariant-loop-rest l =
    (form_of l.text ≡ events_form l.text l.ordinal l.rest) × (1 ≤ l.ordinal) × (l.ordinal + length l.rest ≤ length l.text + 1) × (length l.text ≤ 65536)

abbrev pub decreases-loop-rest : goal.decreases-loop-rest
decreases-loop-rest l = length l.rest
