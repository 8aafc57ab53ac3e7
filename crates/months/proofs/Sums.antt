-- The sums `total f n`, and the tests `any_day p n`.
-- Assumes nothing.
use Prim.Native.Nat.{ℕ, zero, suc, ◌≤◌, ◌<◌}
use native.Mathlib.Omega.{arith}
use mathlib.Core.Path.{◌≡◌, refl}
use mathlib.Core.Bool.{Bool, true, or-true}
use lib.Dec.{leb, eqb}
use borrow.Author.Tests.{leb-true, leb-false, eqb-true, eqb-false}
use Rattle.ledger.proofs.Cases.{decide}
use Rattle.calendar.specs.Calendar.{total}
use Rattle.calendar.specs.Days.{any_day}

pub total-same : (f g : ℕ → ℕ) (n : ℕ) → ((k : ℕ) → k < n → f k ≡ g k) → total f n ≡ total g n
unfolding total
total-same f g zero h = refl
total-same f g (suc n) h = rw (h n (omega arith), total-same f g n (λ k b. h k (omega arith)))

-- what is 0 from m on adds nothing
pub total-rest : (f : ℕ → ℕ) (m n : ℕ) → m ≤ n → ((k : ℕ) → m ≤ k → k < n → f k ≡ 0) → total f n ≡ total f m
unfolding total
total-rest f m zero h g = let e : m ≡ 0 = omega arith in rw e refl
total-rest f m (suc n) h g = decide (leb m n)
    (λ y. let b = leb-true m n y in omega (arith, g n b (omega arith), total-rest f m n b (λ k i j. g k i (omega (arith, j)))))
    (λ y. let e : m ≡ suc n = omega (arith, leb-false m n y) in rw e refl)

pub any_some : (p : ℕ → Bool) (n k : ℕ) → k < n → p k ≡ true → any_day p n ≡ true
unfolding any_day
any_some p zero k h t = absurd (omega arith)
any_some p (suc n) k h t = decide (eqb k n)
    (λ y. simp (rw (eqb-true k n y) at t))
    (λ f. rw (any_some p n k (omega (arith, eqb-false k n f)) t) (or-true (p n)))
