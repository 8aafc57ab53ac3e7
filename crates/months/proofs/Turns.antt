-- The sums over usage days: one turn of the loop, where the range starts, and where it ends.
-- Assumes nothing.
use Prim.Native.Nat.{ℕ, ◌+◌, ◌≤◌}
use native.Mathlib.Omega.{arith}
use native.Mathlib.Numerals.{add-one}
use mathlib.Core.Path.{◌≡◌, refl, sym}
use mathlib.Core.Bool.{Bool, cond, and-false}
use mathlib.Core.List.{List}
use lib.ListN.{get_or}
use borrow.Author.Tests.{le-ltb, lt-leb}
use Rattle.std.specs.declared.ops.Range.{Range}
use Rattle.calendar.specs.Calendar.{total}
use Rattle.ledger.specs.Entries.{UsageDay}
use Rattle.account.specs.Record.{blank_day}
use Rattle.moves.specs.declared.Day.{Day}
use Rattle.months.specs.Summary.{state_of, usage_by}
use Rattle.months.specs.Work.{span}
use Rattle.months.proofs.Sums.{total-rest}

module _ (q : ℕ → Bool) (f : UsageDay → ℕ) (l : List Day) where
  -- what usage day u comes to
  abbrev part : ℕ → ℕ
  part u = cond (q u) (f (state_of (get_or l u blank_day).usage)) 0

  pub usage_turn : (n : ℕ) → usage_by q f l (n + 1) ≡ usage_by q f l n + part n
  unfolding usage_by total
  usage_turn n = rw (add-one n) refl

-- the days before a range come to nothing
pub usage_none : (r : Range ℕ) (f : UsageDay → ℕ) (l : List Day) → usage_by (span r) f l r.start ≡ 0
unfolding usage_by total
usage_none r f l = total-rest (part (span r) f l) 0 r.start (omega arith) (λ k g b. simp (lt-leb r.start k b))

-- and so do those after it
pub usage_all : (r : Range ℕ) (f : UsageDay → ℕ) (l : List Day) (n : ℕ) → r.end ≤ n → n ≤ 400 → usage_by (span r) f l n ≡ usage_by (span r) f l 400
unfolding usage_by
usage_all r f l n g h = sym (total-rest (part (span r) f l) n 400 h (λ k i b. simp (le-ltb k r.end (omega (arith, g, i)), and-false)))
