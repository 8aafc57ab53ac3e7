-- The codes of a row by their places.
-- Assumes nothing.
use Prim.Native.Nat.{ℕ}
use mathlib.Core.Path.{◌≡◌, refl}
use mathlib.Core.List.{List, [], ◌∷◌, ◌++◌}
use lib.ListN.{length, get_or}
use Rattle.terms.specs.declared.Terms.{Terms}
use Rattle.ledger.specs.declared.Event.{Event}
use Rattle.ledger.specs.Rules.{Ledger}
use Rattle.ledger.specs.Ledger.{ledger_step, ledger_after}
use Rattle.ledger.specs.Calls.{ledger_codes}

-- the code at an event's place is the ledger's answer to it, just before it
pub code_at : (t : Terms) (es : List Event) (e : Event) (fs : List Event) (more : List ℕ) (d : ℕ) (l : Ledger) → get_or (ledger_codes t l (es ++ (e ∷ fs)) ++ more) (length es) d ≡ (ledger_step t (ledger_after t l es) e).answer.code
unfolding ledger_codes ledger_after
code_at t [] e fs more d l = refl
code_at t (x ∷ es) e fs more d l = code_at t es e fs more d (ledger_step t l x).ledger
