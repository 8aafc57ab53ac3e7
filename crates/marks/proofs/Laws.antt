-- What the answers mean, day by day: for those who cite specs/Marks.antt. Assumes nothing.
use mathlib.Core.Path.{◌≡◌, refl, sym, ◌∙◌, ap}
use mathlib.Core.Bool.{Bool, true, false, cond, not, ◌&&◌, ◌||◌, and-true, and-false, or-false}
use mathlib.Core.List.{List}
use Prim.Native.Nat.{ℕ, zero, suc, ◌+◌, ◌-◌, ◌≤◌, ◌<◌}
use native.Mathlib.Numerals.{sub-one}
use native.Mathlib.Omega.{arith}
use lib.ListN.{length, get_or, length-set}
use lib.Seq.{get_or-set_same, get_or-set_other}
use lib.Dec.{ltb, leb, eqb, leb-zero, leb-suc-zero, leb-suc-suc, eqb-suc-zero}
use lib.Bits.{bit_and, bit_or}
use borrow.Author.Tests.{ltb-true, ltb-false, leb-true, leb-false, eqb-true, eqb-false, lt-ltb, le-ltb, le-leb, lt-leb, ne_eqb}
use Rattle.calendar.specs.Days.{any_day, count_days}
use Rattle.calendar.proofs.Sums.{decide, any_none, any_same}
use Rattle.marks.specs.Marks.{is_missing, mark_bit, mark_range, latest_of, day_before, business_left, near_of, marked, latest_warning, weather_near}

-- ---- setting a mark

range_length : (l : List ℕ) (bit from n : ℕ) → length (mark_range l bit from n) ≡ length l
unfolding mark_range
range_length l bit from zero = refl
range_length l bit from (suc n) = simp length-set (range_length l bit from n)

pub marked-length : (l : List ℕ) (kind from to : ℕ) → length (marked l kind from to) ≡ length l
unfolding marked
marked-length l kind from to = decide (leb to 399) (λ t. simp t (range_length l (mark_bit kind) from (to + 1 - from))) (λ f. simp f)

abbrev or_at : List ℕ → ℕ → ℕ → ℕ
or_at m bit d = bit_or (get_or m d 0) bit

module _ (l : List ℕ) (bit from d : ℕ) where
  -- day from + n leaves another day as it was
  range_other : (n : ℕ) → (d ≡ from + n → ⊥) → get_or (mark_range l bit from (suc n)) d 0 ≡ get_or (mark_range l bit from n) d 0
  unfolding mark_range
  range_other n ne = let m = mark_range l bit from n in get_or-set_other m (from + n) d (or_at m bit (from + n)) 0 ne

  range-out : (n : ℕ) → (from ≤ d → d < from + n → ⊥) → get_or (mark_range l bit from n) d 0 ≡ get_or l d 0
  unfolding mark_range
  range-out zero out = refl
  range-out (suc n) out = range_other n (λ e. out (omega arith) (omega arith)) ∙ range-out n (λ a b. out a (omega arith))

  range_same : (n : ℕ) → d < length l → d ≡ from + n → get_or (mark_range l bit from (suc n)) d 0 ≡ or_at (mark_range l bit from n) bit d
  unfolding mark_range
  range_same n h e = let m = mark_range l bit from n in rw (sym e) (get_or-set_same m d (or_at m bit d) 0 (rw (range_length l bit from n) h))

  range-in : (n : ℕ) → d < length l → from ≤ d → d < from + n → get_or (mark_range l bit from n) d 0 ≡ or_at l bit d
  range-in zero h a b = absurd (omega arith)
  range-in (suc n) h a b = decide (eqb d (from + n))
      (λ t. range_same n h (eqb-true d (from + n) t) ∙ ap (λ (v : ℕ). bit_or v bit) (range-out n (λ _ b'. omega (arith, eqb-true d (from + n) t))))
      (λ f. range_other n (eqb-false d (from + n) f) ∙ range-in n h a (omega (arith, eqb-false d (from + n) f)))

pub marked-at : (l : List ℕ) (kind from to d : ℕ) → length l ≡ 400 → to ≤ 399 → d < 400
    → get_or (marked l kind from to) d 0 ≡ cond (leb from d && leb d to) (bit_or (get_or l d 0) (mark_bit kind)) (get_or l d 0)
unfolding marked
marked-at l kind from to d len h hd = simp (le-leb to 399 h) (decide (leb from d)
    (λ t. decide (leb d to)
    (λ t'. simp (t, t') (range-in l (mark_bit kind) from d (to + 1 - from) (omega arith) (leb-true from d t) (omega (arith, leb-true from d t, leb-true d to t'))))
    (λ f'. simp (t, f') (range-out l (mark_bit kind) from d (to + 1 - from) (λ a b. omega (arith, leb-false d to f')))))
    (λ f. simp f (range-out l (mark_bit kind) from d (to + 1 - from) (λ a b. omega (arith, leb-false from d f)))))

-- ---- the newest warning

of_some : (l : List ℕ) (d n w : ℕ) → get_or l w 0 ≡ 1 → w < d → d ≤ w + n → is_missing (latest_of l d n) ≡ false
unfolding latest_of
of_some l zero n w e a b = absurd (omega arith)
of_some l (suc d) zero w e a b = absurd (omega arith)
of_some l (suc d) (suc n) w e a b = decide (eqb (get_or l d 0) 1)
    (λ t. simp t)
    (λ f.
    let ne : w ≡ d → ⊥ = λ s. eqb-false (get_or l d 0) 1 f (rw s at e) in
    simp f (of_some l d n w e (omega arith) (omega arith)))

of_none : (l : List ℕ) (d n : ℕ) → ((w : ℕ) → w < d → d ≤ w + n → get_or l w 0 ≡ 1 → ⊥) → is_missing (latest_of l d n) ≡ true
unfolding latest_of
of_none l zero zero h = refl
of_none l (suc d) zero h = refl
of_none l zero (suc n) h = refl
of_none l (suc d) (suc n) h = simp (ne_eqb (get_or l d 0) 1 (h d (omega arith) (omega arith))) (of_none l d n (λ w a b. h w (omega arith) (omega arith)))

pub latest-some : (l : List ℕ) (x w : ℕ) → x ≤ 399 → get_or l w 0 ≡ 1 → w < x → x ≤ w + 7 → is_missing (latest_warning l x) ≡ false
unfolding latest_warning
latest-some l x w h e a b = simp (le-leb x 399 h) (of_some l x 7 w e a b)

pub latest-none : (l : List ℕ) (x : ℕ) → x ≤ 399 → ((w : ℕ) → w < x → x ≤ w + 7 → get_or l w 0 ≡ 1 → ⊥) → is_missing (latest_warning l x) ≡ true
unfolding latest_warning
latest-none l x h none = simp (le-leb x 399 h) (of_none l x 7 none)

-- ---- the weather day near

-- the business days among days w + 1 to x
abbrev pub since : (ℕ → Bool) → ℕ → ℕ → ℕ
since business w x = count_days (λ (d : ℕ). ltb w d && business d) (suc x)

-- some weather day w ≤ x has at most `left` business days among days w + 1 to x
abbrev pub near_by : (ℕ → Bool) → (ℕ → Bool) → ℕ → ℕ → Bool
near_by weather business x left = any_day (λ (w : ℕ). weather w && leb (since business w x) left) (suc x)

abbrev pub any_near : (ℕ → Bool) → (ℕ → Bool) → ℕ → Bool
any_near weather business x = near_by weather business x 1

any_step : (p : ℕ → Bool) (n : ℕ) → any_day p (suc n) ≡ (p n || any_day p n)
unfolding any_day
any_step p n = refl

none-since : (business : ℕ → Bool) (w n : ℕ) → n ≤ suc w → count_days (λ (d : ℕ). ltb w d && business d) n ≡ 0
unfolding count_days
none-since business w zero h = refl
none-since business w (suc n) h = simp (le-ltb w n (omega arith), none-since business w n (omega arith))

one_more : (business : ℕ → Bool) (b : Bool) (w x : ℕ) → w ≤ x → business (suc x) ≡ b → since business w (suc x) ≡ cond b (suc (since business w x)) (since business w x)
unfolding count_days
one_more business true w x h e = simp (lt-ltb w (suc x) (omega arith), e) (omega arith)
one_more business false w x h e = simp (lt-ltb w (suc x) (omega arith), e) (omega arith)

on-day : (weather business : ℕ → Bool) (x left : ℕ) → (weather x && leb (since business x x) left) ≡ weather x
on-day weather business x left = simp (none-since business x (suc x) (omega arith), leb-zero left, and-true (weather x))

earlier : (weather business : ℕ → Bool) (b : Bool) (x left : ℕ) → business (suc x) ≡ b
    → any_day (λ (w : ℕ). weather w && leb (since business w (suc x)) left) (suc x) ≡ (not (b && eqb left 0) && near_by weather business x (cond b (left - 1) left))
earlier weather business false x left e = any_same _ _ (suc x) (λ w h. rw (one_more business false w x (omega arith) e))
earlier weather business true x zero e = any_none _ (suc x) (λ w h. rw (one_more business true w x (omega arith) e, leb-suc-zero (since business w x)) (and-false (weather w)))
earlier weather business true x (suc left) e =
    rw (eqb-suc-zero left) (any_same _ _ (suc x) (λ w h. rw (one_more business true w x (omega arith) e, leb-suc-suc (since business w x) left, sub-one)))

near-more : (weather business : ℕ → Bool) (b : Bool) (x left : ℕ) → business (suc x) ≡ b
    → near_by weather business (suc x) left ≡ (weather (suc x) || (not (b && eqb left 0) && near_by weather business x (cond b (left - 1) left)))
near-more weather business b x left e = any_step _ (suc x) ∙ rw (on-day weather business (suc x) left, earlier weather business b x left e)

left_is : (w left : ℕ) → business_left w left ≡ cond (ltb w 5) (left - 1) left
left_is w left = decide (ltb w 5) (λ t. simp (t, lt-leb 5 w (ltb-true w 5 t))) (λ f. simp (f, le-leb 5 w (ltb-false w 5 f)))

module _ (l : List ℕ) (weather business : ℕ → Bool) (weekday_at : ℕ → ℕ)
    (bit : (d : ℕ) → d < 400 → not (eqb (bit_and (get_or l d 0) 1) 0) ≡ weather d)
    (days : (d : ℕ) → business d ≡ ltb (weekday_at d) 5)
    (before : (d : ℕ) → day_before (weekday_at (suc d)) ≡ weekday_at d) where
  near-all : (d left : ℕ) → d < 400 → near_of l (weekday_at d) d left ≡ near_by weather business d left
  unfolding near_of any_day
  near-all zero left h = bit 0 h ∙ sym (or-false _ ∙ on-day weather business 0 left)
  near-all (suc d) left h =
      let w = weekday_at (suc d) in
      simp (bit (suc d) h, before d, left_is w left, near-all d (cond (ltb w 5) (left - 1) left) (omega arith)) (sym (near-more weather business (ltb w 5) d left (days (suc d))))

  pub near-is : (x : ℕ) → x ≤ 399 → weather_near l (weekday_at x) x ≡ any_near weather business x
  unfolding weather_near
  near-is x h = simp (le-leb x 399 h) (near-all x 1 (omega arith))

-- ---- the bits of a day's byte

abbrev pub byte_of : Bool → Bool → Bool → ℕ
byte_of b1 b2 b3 = cond b1 1 0 + (cond b2 2 0 + cond b3 4 0)

by_bits : (P : Bool → Bool → Bool → Type 0) → P true true true → P true true false → P true false true → P true false false → P false true true → P false true false → P false false true → P false false false
    → (b1 b2 b3 : Bool) → P b1 b2 b3
by_bits P a b c d e f g h true true true = a
by_bits P a b c d e f g h true true false = b
by_bits P a b c d e f g h true false true = c
by_bits P a b c d e f g h true false false = d
by_bits P a b c d e f g h false true true = e
by_bits P a b c d e f g h false true false = f
by_bits P a b c d e f g h false false true = g
by_bits P a b c d e f g h false false false = h

abbrev Ored : ℕ → Bool → Bool → Bool → Type 0
Ored kind b1 b2 b3 = bit_or (byte_of b1 b2 b3) (mark_bit kind) ≡ byte_of (eqb kind 1 || b1) (eqb kind 2 || b2) (eqb kind 3 || b3)

pub byte_or : (kind : ℕ) (b1 b2 b3 : Bool) → 1 ≤ kind → kind ≤ 3
    → bit_or (byte_of b1 b2 b3) (mark_bit kind) ≡ byte_of (eqb kind 1 || b1) (eqb kind 2 || b2) (eqb kind 3 || b3)
byte_or zero b1 b2 b3 lo hi = absurd (omega arith)
byte_or (suc zero) b1 b2 b3 lo hi = by_bits (Ored 1) refl refl refl refl refl refl refl refl b1 b2 b3
byte_or (suc (suc zero)) b1 b2 b3 lo hi = by_bits (Ored 2) refl refl refl refl refl refl refl refl b1 b2 b3
byte_or (suc (suc (suc zero))) b1 b2 b3 lo hi = by_bits (Ored 3) refl refl refl refl refl refl refl refl b1 b2 b3
byte_or (suc (suc (suc (suc k)))) b1 b2 b3 lo hi = absurd (omega arith)

pub byte-weather : (b1 b2 b3 : Bool) → not (eqb (bit_and (byte_of b1 b2 b3) 1) 0) ≡ b1
byte-weather = by_bits (λ b1 b2 b3. not (eqb (bit_and (byte_of b1 b2 b3) 1) 0) ≡ b1) refl refl refl refl refl refl refl refl

pub byte-barring : (b1 b2 b3 : Bool) → not (eqb (bit_and (byte_of b1 b2 b3) 7) 0) ≡ (b1 || (b2 || b3))
byte-barring = by_bits (λ b1 b2 b3. not (eqb (bit_and (byte_of b1 b2 b3) 7) 0) ≡ (b1 || (b2 || b3))) refl refl refl refl refl refl refl refl
