-- Signed money as the difference of two sums: what `omega` can read of it.
-- Assumes nothing.
use mathlib.Core.Path.{◌≡◌, sym, ap, ◌∙◌}
use Prim.Native.Nat.{ℕ, zero, suc, ◌+◌, ◌-◌, ◌≤◌, ◌<◌}
use native.Mathlib.Omega.{arith}
use lib.Dec.{ltb, leb}
use lib.IntN.{ℤ, pos, negsuc, neg_ℤ, nat_abs, ◌+ℤ◌, ◌-ℤ◌, +ℤ_assoc, +ℤ_comm, neg_ℤ-+ℤ}
use lib.Signed.{lt_z, le_z}
use borrow.Author.Tests.{ltb-true, ltb-false, leb-true, leb-false, lt-ltb, le-ltb, le-leb, lt-leb}
use Rattle.ledger.proofs.Cases.{decide}

abbrev pub diff : ℕ → ℕ → ℤ
diff c d = pos c -ℤ pos d

-- ---- the two ways a difference comes out
pub diff-high : (c d : ℕ) → d ≤ c → diff c d ≡ pos (c - d)
diff-high c zero h = ap pos (omega arith)
diff-high c (suc d) h = simp (le-ltb c (suc d) h)

pub diff-below : (c d : ℕ) → c < d → diff c d ≡ negsuc (d - suc c)
diff-below c zero h = absurd (omega arith)
diff-below c (suc d) h = simp (lt-ltb c (suc d) h)

pub by_sign : {X : Type 0} (c d : ℕ) → (d ≤ c → X) → (c < d → X) → X
by_sign c d high below = decide (ltb c d) (λ t. below (ltb-true c d t)) (λ f. high (ltb-false c d f))

pub diff-zero : (n : ℕ) → pos n ≡ diff n 0
diff-zero n = ap pos (omega arith)

pub diff-eq : (a b c d : ℕ) → a + d ≡ c + b → diff a b ≡ diff c d
diff-eq a b c d e = by_sign a b
    (λ h. diff-high a b h ∙ ap pos (omega arith) ∙ sym (diff-high c d (omega arith)))
    (λ h. diff-below a b h ∙ ap negsuc (omega arith) ∙ sym (diff-below c d (omega arith)))

-- ---- sums
pub diff-add : (a b n : ℕ) → diff a b +ℤ pos n ≡ diff (a + n) b
diff-add a b n =
    +ℤ_assoc (pos a) (neg_ℤ (pos b)) (pos n)
    ∙ ap (λ (z : ℤ). pos a +ℤ z) (+ℤ_comm (neg_ℤ (pos b)) (pos n))
    ∙ sym (+ℤ_assoc (pos a) (pos n) (neg_ℤ (pos b)))

pub diff-sub : (a b n : ℕ) → diff a b -ℤ pos n ≡ diff a (b + n)
diff-sub a b n = +ℤ_assoc (pos a) (neg_ℤ (pos b)) (neg_ℤ (pos n)) ∙ ap (λ (z : ℤ). pos a +ℤ z) (sym (neg_ℤ-+ℤ (pos b) (pos n)))

-- ---- order
pub diff-lt : (c d k : ℕ) → lt_z (diff c d) (pos k) ≡ ltb c (d + k)
diff-lt c d k = by_sign c d
    (λ h. rw (diff-high c d h) (decide (ltb (c - d) k)
    (λ t. t ∙ sym (lt-ltb c (d + k) (omega (arith, ltb-true (c - d) k t))))
    (λ f. f ∙ sym (le-ltb c (d + k) (omega (arith, ltb-false (c - d) k f))))))
    (λ h. rw (diff-below c d h) (sym (lt-ltb c (d + k) (omega arith))))

pub diff-ge : (c d k : ℕ) → le_z (pos k) (diff c d) ≡ leb (d + k) c
diff-ge c d k = by_sign c d
    (λ h. rw (diff-high c d h) (decide (leb k (c - d))
    (λ t. t ∙ sym (le-leb (d + k) c (omega (arith, leb-true k (c - d) t))))
    (λ f. f ∙ sym (lt-leb (d + k) c (omega (arith, leb-false k (c - d) f))))))
    (λ h. rw (diff-below c d h) (sym (lt-leb (d + k) c (omega arith))))

pub diff-low : (c d k : ℕ) → le_z (diff c d) (neg_ℤ (pos (suc k))) ≡ leb (c + suc k) d
diff-low c d k = by_sign c d
    (λ h. rw (diff-high c d h) (sym (lt-leb (c + suc k) d (omega arith))))
    (λ h. rw (diff-below c d h) (decide (leb k (d - suc c))
    (λ t. t ∙ sym (le-leb (c + suc k) d (omega (arith, leb-true k (d - suc c) t))))
    (λ f. f ∙ sym (lt-leb (c + suc k) d (omega (arith, leb-false k (d - suc c) f))))))

-- what is lacking to k
pub diff-gap : (c d k : ℕ) → c ≤ d → nat_abs (pos k -ℤ diff c d) ≡ k + d - c
diff-gap c d k h = by_sign c d
    (λ e. rw (diff-high c d e) (let z : c - d ≡ 0 = omega arith in rw z (omega arith)))
    (λ l. rw (diff-below c d l) (omega arith))
