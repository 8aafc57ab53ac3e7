-- The events of a text, one after the other: what is made of them, by a state that each event changes.
use Rattle.std.specs.Prelude.{ℕ, zero, suc, List, [], ◌∷◌, length}
use Rattle.ledger.specs.declared.Event.{Event}
use Rattle.scanner.specs.Scanner.{got, broken}
use Rattle.text.specs.Text.{read_event}

-- What an event does to the state, what is made of an event with what is made of those after it, what of one that breaks the form, and what
-- of the end.
pub record Fold (S Y : Type 0) : Type 0 where
  pub step : S → Event → S
  pub event : S → Event → Y → Y
  pub malformed : S → Y
  pub end : S → Y

-- by `more`, what is made from the next event on; no more is read after an event that breaks the form
abbrev pub fold_by : {S Y : Type 0} → Fold S Y → (S → List ℕ → Y) → S → List ℕ → Y
fold_by w more x [] = w.end x
fold_by w more x (b ∷ s) =
    elim (read_event (b ∷ s)) [
      | got e r ↦ w.event x e (more (w.step x e) r)
      | broken ↦ w.malformed x
    ]

-- the same, cut off after k events
unfoldable pub fold_in : {S Y : Type 0} → Fold S Y → ℕ → S → List ℕ → Y
fold_in w zero x s = w.end x
fold_in w (suc k) x s = fold_by w (fold_in w k) x s

-- There are no more events than bytes, so nothing is cut off: `transcript::counts_suffice`, `text_account::count_suffices`.
abbrev pub fold_events : {S Y : Type 0} → Fold S Y → S → List ℕ → Y
fold_events w x s = fold_in w (suc (length s)) x s
