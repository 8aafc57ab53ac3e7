-- Laws of the sums over L.
-- Assumes nothing.
use mathlib.Core.Path.{◌≡◌, refl, sym, ap}
use mathlib.Core.Bool.{Bool, true, false, cond, not, ◌&&◌, ◌||◌}
use mathlib.Core.List.{[], ◌∷◌}
use Prim.Native.Nat.{ℕ, suc, ◌+◌, ◌≤◌}
use native.Mathlib.Omega.{arith}
use lib.Dec.{eqb}
use borrow.Author.Tests.{eqb-true, eqb-false, eq-eqb, ne_eqb}
use Rattle.std.proofs.lemmas.Bool.{and_parts}
use Rattle.ledger.specs.Event.{is_pay}
use Rattle.ledger.specs.Entries.{Entry, Entries, count, sum, sum_of, find, or_zero, payment_count, has_number}
use Rattle.ledger.specs.Invariant.{All}
use Rattle.ledger.proofs.Cases.{decide}

pub all_map : (P Q : Entry → Type 0) → ((x : Entry) → P x → Q x) → (l : Entries) → All P l → All Q l
all_map P Q h [] a = tt
all_map P Q h (x ∷ l) a = (h x a.0, all_map P Q h l a.1)

pub sum_same : (P : Entry → Type 0) (f g : Entry → Entries → ℕ) → ((x : Entry) (b : Entries) → P x → f x b ≡ g x b)
    → (l : Entries) → All P l → sum f l ≡ sum g l
unfolding sum
sum_same P f g h [] a = refl
sum_same P f g h (x ∷ l) a = omega (arith, sum_same P f g h l a.1, h x l a.0)

-- ---- leaving out what has the key k

take-one : (o : Bool) (q : ℕ → Bool) (k n w : ℕ) → q k ≡ false
    → cond (o && not (q n)) w 0 ≡ cond (o && not (eqb k n || q n)) w 0 + cond (o && eqb n k) w 0
take-one false q k n w f = refl
take-one true q k n w f = decide (eqb n k)
    (λ t. simp (t, eq-eqb k n (sym (eqb-true n k t)), ap q (eqb-true n k t), f) (omega arith))
    (λ d. simp (d, ne_eqb k n (λ s. eqb-false n k d (sym s))) (omega arith))

pub take_out : (on : Entry → Bool) (key : Entry → Entries → ℕ) (w : Entry → ℕ) (q : ℕ → Bool) (k : ℕ) → q k ≡ false → (l : Entries)
    → sum_of (λ x b. on x && not (q (key x b))) w l
    ≡ sum_of (λ x b. on x && not (eqb k (key x b) || q (key x b))) w l + sum_of (λ x b. on x && eqb (key x b) k) w l
unfolding sum
take_out on key w q k f [] = refl
take_out on key w q k f (x ∷ l) = omega (arith, take_out on key w q k f l, take-one (on x) q k (key x l) (w x) f)

-- ---- of what is picked once at the most, the sum is the one's

none-weighs : (m : Entry → Entries → Bool) (w : Entry → ℕ) (l : Entries) → sum_of m (λ x. 1) l ≡ 0 → sum_of m w l ≡ 0
unfolding sum
none-weighs m w [] z = refl
none-weighs m w (x ∷ l) z = decide (m x l)
    (λ t. absurd (omega (arith, simp t at z)))
    (λ f. simp f (omega (arith, none-weighs m w l (omega (arith, simp f at z)))))

pub one-weighs : (m : Entry → Entries → Bool) (w : Entry → ℕ) (l : Entries) → sum_of m (λ x. 1) l ≤ 1 → sum_of m w l ≡ or_zero w (find m l)
unfolding sum find
one-weighs m w [] h = refl
one-weighs m w (x ∷ l) h = decide (m x l)
    (λ t. simp t (omega (arith, none-weighs m w l (omega (arith, simp t at h)))))
    (λ f. simp f (omega (arith, one-weighs m w l (omega (arith, simp f at h)))))

-- a number not given yet has no payment, and every number one at the most
not-given : (n : ℕ) (l : Entries) → payment_count l ≤ n → sum_of (has_number n) (λ x. 1) l ≡ 0
unfolding sum payment_count count
not-given n [] h = refl
not-given n (x ∷ l) h = decide (is_pay x.event)
    (λ t. let h' : suc (payment_count l) ≤ n = omega (arith, simp t at h) in simp (t, ne_eqb (payment_count l) n (λ e. omega arith)) (omega (arith, not-given n l (omega arith))))
    (λ f. simp f (omega (arith, not-given n l (omega (arith, simp f at h)))))

pub given-once : (n : ℕ) (l : Entries) → sum_of (has_number n) (λ x. 1) l ≤ 1
unfolding sum
given-once n [] = omega arith
given-once n (x ∷ l) = decide (has_number n x l)
    (λ t. simp t (omega (arith, not-given n l (omega (arith, eqb-true (payment_count l) n (and_parts (is_pay x.event) _ t).1)))))
    (λ f. simp f (omega (arith, given-once n l)))
