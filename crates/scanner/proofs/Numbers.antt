-- The digits of a number, one by one. Assumes nothing.
use Rattle.std.proofs.Common.{◌≡◌, ℕ, zero, suc, ◌+◌, ◌-◌, ◌*◌, ◌<◌, ◌≤◌, Bool, true, false, not, leb, eqb, ◌||◌, refl, Some, None, List, [], ◌∷◌, length, get_or, drop, sym, arith, add-one, drop-cons}
use mathlib.Core.Bool.{and-false}
use borrow.Author.Tests.{le-leb, lt-leb, leb-true}
use Rattle.std.proofs.lemmas.Bool.{and_parts}
use Rattle.std.proofs.lemmas.Bool.Decides.{nat_tests}
use lib.ListN.{drop_of_length-le}
use Rattle.scanner.specs.Scanner.{is_digit, all_digits, value_from, max_number, is_number}
use Rattle.std.proofs.lemmas.Option.{cond_some}
use Rattle.scanner.specs.Values.{digit_of, decimal}
use Rattle.scanner.proofs.Lines.{cond_none}

-- with n read before a place, what is left decides
pub record GoesOn (v : List ℕ) (i n : ℕ) : Type 0 where
  pub fits : n < 4294967296
  pub digits : all_digits v ≡ all_digits (drop i v)
  pub value : value_from 0 v ≡ value_from n (drop i v)

value_grows : (n : ℕ) (s : List ℕ) → n ≤ value_from n s
unfolding value_from
value_grows n [] = omega arith
value_grows n (b ∷ s) = let h = value_grows (n * 10 + (b - 48)) s in omega arith

-- n with so many zeros behind it
abbrev tens : ℕ → ℕ → ℕ
tens n zero = n
tens n (suc k) = tens (n * 10) k

tens_grow : (k : ℕ) {n m : ℕ} → n ≤ m → tens n k ≤ tens m k
tens_grow zero h = h
tens_grow (suc k) {n} {m} h = tens_grow k (omega arith)

value-tens : (k n : ℕ) (s : List ℕ) → k ≤ length s → tens n k ≤ value_from n s
unfolding value_from
value-tens zero n s h = value_grows n s
value-tens (suc k) n [] h = absurd (omega arith)
value-tens (suc k) n (b ∷ s) h =
    let f : tens (n * 10) k ≤ tens (n * 10 + (b - 48)) k = tens_grow k (omega arith) in
    let g = value-tens k (n * 10 + (b - 48)) s (omega arith) in
    omega arith

-- eleven digits without a leading zero make a number above the largest
long : (t : Bool) (v : List ℕ) → 11 ≤ length v → is_number v ≡ t → t ≡ false
unfolding is_number all_digits value_from
long false v h e = refl
long true [] h e = absurd (omega arith)
long true (b ∷ s) h e =
    let p = and_parts (leb 1 (length (b ∷ s))) _ e in
    let q = and_parts (all_digits (b ∷ s)) _ p.1 in
    let r = and_parts (eqb (length (b ∷ s)) 1 || not (eqb b 48)) _ q.1 in
    let d : 1 ≤ 0 * 10 + (b - 48) = grind (arith, nat_tests) in
    let f : 10000000000 ≤ tens (0 * 10 + (b - 48)) 10 = tens_grow 10 d in
    let g : tens (0 * 10 + (b - 48)) 10 ≤ value_from (0 * 10 + (b - 48)) s = value-tens 10 (0 * 10 + (b - 48)) s (omega arith) in
    let m : value_from (0 * 10 + (b - 48)) s ≤ max_number = leb-true _ _ r.1 in
    absurd (omega arith)

pub long-no-number : (v : List ℕ) → 11 ≤ length v → is_number v ≡ false
long-no-number v h = long (is_number v) v h refl

module _ (v : List ℕ) (i n : ℕ) (g : GoesOn v i n) where
  module _ (h : i < length v) where
    left : drop i v ≡ get_or v i 0 ∷ drop (i + 1) v
    left = rw add-one (drop-cons v i 0 h)

    pub not-digit : None ≡ digit_of (get_or v i 0) → None ≡ decimal v
    unfolding decimal all_digits
    not-digit d = simp (g.digits, left, cond_none _ _ d)

    pub too-large : (d : ℕ) → d ≤ get_or v i 0 - 48 → 4294967296 ≤ n * 10 + d → None ≡ decimal v
    unfolding decimal value_from
    too-large d l h =
        let m = n * 10 + (get_or v i 0 - 48) in
        let k = value_grows m (drop (i + 1) v) in
        simp (g.value, left, lt-leb (value_from m (drop (i + 1) v)) max_number (omega arith), and-false)

    module _ (d : ℕ) (e : Some d ≡ digit_of (get_or v i 0)) where
      is : (is_digit (get_or v i 0) ≡ true) × (get_or v i 0 - 48 ≡ d)
      is = cond_some _ _ _ (sym e)

      pub above : 4294967296 ≤ n * 10 + d → None ≡ decimal v
      above h = too-large d (omega (arith, is)) h

      pub next-digit : (m : ℕ) → m ≡ n * 10 + d → m < 4294967296 → GoesOn v (i + 1) m
      unfolding value_from all_digits
      next-digit m e h = record { fits = h; digits = simp (g.digits, left, is.0); value = rw (e, ← is.1) (simp (g.value, left)) }

  pub all-read : length v ≤ i → Some n ≡ decimal v
  unfolding decimal value_from all_digits
  all-read l = let e = drop_of_length-le v l in simp (g.digits, g.value, e, le-leb n max_number (let h = g.fits in omega arith))

pub ruleset digit_steps = (not-digit, too-large, above, all-read)
