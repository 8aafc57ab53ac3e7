-- Tests of all and of any numbers below a limit, and the sums `total f n` of `specs/Calendar.antt`. Assumes nothing.
use mathlib.Core.Path.{◌≡◌, refl, ap, subst⁻¹}
use mathlib.Core.Bool.{Bool, true, false, ◌&&◌}
use mathlib.Core.Logic.{inl, inr}
use Prim.Native.Nat.{ℕ, zero, suc, ◌≤◌, ◌<◌}
use native.Mathlib.Nat.{eq-or-lt_of_le, le_of_eq, le_of_suc-le-suc, not-suc-le-zero, le_antisymm, le_refl}
use native.Mathlib.Omega.{arith}
use lib.Dec.{leb}
use borrow.Author.Tests.{leb-true, leb-false}
use Rattle.std.proofs.lemmas.Bool.{and_parts}
use Rattle.calendar.specs.Calendar.{total}
use Rattle.calendar.specs.Days.{any_day}

-- each way a test can come out
pub decide : {X : Type 0} (b : Bool) → (b ≡ true → X) → (b ≡ false → X) → X
decide true t f = t refl
decide false t f = f refl

-- a test that begins with an order
pub leb-and : (a b : ℕ) (t : Bool) → leb a b && t ≡ true → (a ≤ b) × (t ≡ true)
leb-and a b t e = let p = and_parts (leb a b) t e in (leb-true a b p.0, p.1)

-- the test p passes at every number below n
abbrev pub every : (ℕ → Bool) → ℕ → Bool
every p zero = true
every p (suc n) = p n && every p n

pub every-at : (p : ℕ → Bool) (n : ℕ) → every p n ≡ true → (k : ℕ) → k < n → p k ≡ true
every-at p zero e k h = absurd (not-suc-le-zero h)
every-at p (suc n) e k h = elim (eq-or-lt_of_le (le_of_suc-le-suc h)) [
  | inl s ↦ subst⁻¹ (λ (j : ℕ). p j ≡ true) s (and_parts (p n) (every p n) e).0
  | inr l ↦ every-at p n (and_parts (p n) (every p n) e).1 k l
]

-- ---- the test of any of them

pub any_none : (p : ℕ → Bool) (n : ℕ) → ((k : ℕ) → k < n → p k ≡ false) → any_day p n ≡ false
unfolding any_day
any_none p zero h = refl
any_none p (suc n) h = simp (h n (omega arith)) (any_none p n (λ k l. h k (omega arith)))

pub any_same : (p q : ℕ → Bool) (n : ℕ) → ((k : ℕ) → k < n → p k ≡ q k) → any_day p n ≡ any_day q n
unfolding any_day
any_same p q zero h = refl
any_same p q (suc n) h = rw (h n (omega arith), any_same p q n (λ k l. h k (omega arith)))

-- ---- sums

module _ (f : ℕ → ℕ) where
  -- a longer sum is no smaller
  pub total_mono : (i j : ℕ) → i ≤ j → total f i ≤ total f j
  unfolding total
  total_mono zero zero h = le_refl 0
  total_mono (suc i) zero h = absurd (not-suc-le-zero h)
  total_mono i (suc j) h = elim (eq-or-lt_of_le h) [
    | inl e ↦ le_of_eq (ap (total f) e)
    | inr l ↦ let p = total_mono i j (le_of_suc-le-suc l) in omega arith
  ]

  -- n is at least the sum of the first a values, and below that of the first a + 1
  abbrev pub Within : ℕ → ℕ → Type 0
  Within a n = (total f a ≤ n) × (n < total f (suc a))

  -- of two numbers the smaller lies no later
  pub within-mono : (a b n m : ℕ) → Within a n → Within b m → n ≤ m → a ≤ b
  within-mono a b n m p q h = decide (leb a b) (leb-true a b) (λ t. absurd (let l = total_mono (suc b) a (leb-false a b t) in omega arith))

  -- a number lies in one place alone
  pub within-unique : (a b n : ℕ) → Within a n → Within b n → a ≡ b
  within-unique a b n p q = le_antisymm (within-mono a b n n p q (le_refl n)) (within-mono b a n n q p (le_refl n))
