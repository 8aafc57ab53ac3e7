-- What the function of a sort promises of an event that passed the checks.
use Rattle.std.specs.Prelude.{◌≡◌, Result}
use Rattle.terms.specs.declared.Terms.{Terms}
use Rattle.ledger.specs.declared.Event.{Event}
use Rattle.ledger.specs.declared.Refusal.{Refusal}
use Rattle.moves.specs.declared.Move.{Move}
use Rattle.moves.specs.declared.guard.Checked.{Checked}
use Rattle.moves.specs.Moves.{Moved, accepted, moved_of}

-- the move, or the refusal, that f gives over the account's terms and the cells before
abbrev pub Gives : Checked → Result Move Refusal → (Terms → Moved → Event → Moved) → Type 0
Gives c r f = moved_of (accepted c.before) r ≡ f c.cells.terms (accepted c.before) c.event
