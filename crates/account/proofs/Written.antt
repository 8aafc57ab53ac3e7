-- The cells of a move, written into the record. Assumes nothing.
use mathlib.Core.Path.{◌≡◌, refl, ap, ◌∙◌}
use Prim.Native.Nat.{ℕ}
use native.Mathlib.Nat.{mod-lt}
use native.Mathlib.Omega.{arith}
use lib.Seq.{set-get_or}
use lib.Dec.{eqb}
use borrow.Author.Tests.{eqb-false}
use Rattle.marks.specs.Marks.{mark_range, marked}
use Rattle.ledger.specs.declared.Event.{Event}
use Rattle.ledger.proofs.Cases.{decide}
use Rattle.moves.specs.Moves.{Moved, refusing, move_of, cells_before}
use Rattle.moves.proofs.Arms.{Sound, sound}
use Rattle.account.specs.Record.{blank_day, no_payment}
use Rattle.account.specs.Step.{number_at, usage_at, day_at, arrays_of, cells_of, with_cells, step_of}
use Rattle.account.specs.declared.Account.{Account}

-- no mark, set
pub marks-left : (a : Account) → marked a.marks 0 1 0 ≡ a.marks
unfolding marked mark_range
marks-left a = refl

module _ (a : Account) (e : Event) where
  abbrev m : Moved
  m = move_of a.terms (cells_of a e) (arrays_of a) e

  sound-is : Sound (cells_of a e) m
  unfolding cells_before
  sound-is = sound _ _ _ _ (mod-lt e.number (omega arith), omega arith)

  -- every cell as it is, written back
  left : (k : ℕ) → with_cells a e (refusing (cells_of a e) k) ≡ a
  unfolding cells_before
  left k = λ i. record {
    terms = a.terms;
    totals = a.totals;
    days = set-get_or a.days (usage_at e) blank_day i;
    marks = marks-left a i;
    warned = set-get_or a.warned (day_at e) 0 i;
    payments = set-get_or a.payments (number_at e) no_payment i;
    charges = set-get_or a.charges 0 0 i;
    prices = a.prices;
  }

  -- where it is refused, writing it back changes nothing: so it may be written back whatever its code
  pub written-always : record { account = with_cells a e m; code = m.code; value = m.value } ≡ step_of a e
  unfolding step_of
  written-always = decide (eqb m.code 0)
      (λ y. simp y)
      (λ n. let q : with_cells a e m ≡ a = ap (with_cells a e) (sound-is.refused (eqb-false m.code 0 n)) ∙ left m.code in
      simp n (ap (λ (b : Account). record { account = b; code = m.code; value = m.value }) q))
