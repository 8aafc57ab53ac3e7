-- One turn of each loop. Assumes nothing.
use mathlib.Core.Path.{◌≡◌, refl, sym, ◌∙◌, ap}
use mathlib.Core.Bool.{Bool, true, false, cond, not, ◌&&◌, ◌||◌, or-false, and-false}
use mathlib.Core.List.{List, [], ◌∷◌, ◌++◌}
use Prim.Native.Nat.{ℕ, zero, suc, ◌+◌, ◌-◌, ◌≤◌, ◌<◌}
use native.Mathlib.Numerals.{sub-one}
use native.Mathlib.Omega.{arith}
use lib.ListN.{length, get_or, set, take, length-append}
use lib.Seq.{get_or-append_seam, take-append_seam}
use lib.Dec.{ltb, eqb}
use lib.Bits.{bit_and, bit_or}
use borrow.Rule.Slice.PartMut.{mid_of, post_of, put_mid, put_same}
use Rattle.std.proofs.lemmas.List.{length-take-le, take-take, get_or-take, get_or-append_right, get_or_append_left, set-append_right, set-append_left}
use borrow.Author.Tests.{eq-eqb, ne_eqb, lt-ltb, le-ltb, le-leb, lt-leb}
use Rattle.marks.specs.Marks.{mark_range, latest_of, near_of, day_before, business_left, weather_near}
use Rattle.calendar.specs.Calendar.{final_day}
use Rattle.std.specs.Prelude.{Some, None}

abbrev or_at : List ℕ → ℕ → ℕ → List ℕ
or_at m bit d = set m d (bit_or (get_or m d 0) bit)

-- ---- setting a mark: the part `ys` of the bytes `l`, from day a on, with the first i of its n days marked

pub mark_none : (l : List ℕ) (bit from to : ℕ) → to < from → l ≡ mark_range l bit from (to + 1 - from)
unfolding mark_range
mark_none l bit from to h = let e : to + 1 - from ≡ 0 = omega arith in rw e

pub part_none : (l : List ℕ) (bit a n : ℕ) → put_mid a n l (mid_of a n l) ≡ mark_range l bit a 0
unfolding mark_range
part_none l bit a n = put_same a n l

module _ (l ys : List ℕ) (a n i : ℕ) (h : a ≤ length l) (k : i < length ys) where
  before : length (take a l) ≡ a
  before = length-take-le a l h

  reach : a ≤ a + i
  reach = omega arith

  here : a + i - a ≡ i
  here = omega arith

  part_byte : get_or (put_mid a n l ys) (a + i) 0 ≡ get_or ys i 0
  part_byte = get_or-append_right (take a l) (ys ++ post_of a n l) a (a + i) 0 before reach ∙ rw here (get_or_append_left ys (post_of a n l) 0 i k)

  part_set : (v : ℕ) → set (put_mid a n l ys) (a + i) v ≡ put_mid a n l (set ys i v)
  part_set v = set-append_right (take a l) (ys ++ post_of a n l) a (a + i) v before reach ∙ rw here (ap (λ (r : List ℕ). take a l ++ r) (set-append_left ys (post_of a n l) i v k))

  pub part_turn : (bit : ℕ) → put_mid a n l ys ≡ mark_range l bit a i → put_mid a n l (set ys i (bit_or (get_or ys i 0) bit)) ≡ mark_range l bit a (i + 1)
  unfolding mark_range
  part_turn bit e =
      let next : i + 1 ≡ suc i = omega arith in
      sym (part_set (bit_or (get_or ys i 0) bit)) ∙ ap (λ (b : ℕ). set (put_mid a n l ys) (a + i) (bit_or b bit)) (sym part_byte) ∙ ap (λ (m : List ℕ). or_at m bit (a + i)) e ∙ ap (mark_range l bit a) (sym next)

-- day d - 1 is the next of the days down to `first`
pub latest_end : (l : List ℕ) (d : ℕ) → latest_of l d (d - d) ≡ None
unfolding latest_of
latest_end l zero = refl
latest_end l (suc d) = let z : suc d - suc d ≡ 0 = omega arith in rw z

pub latest_turn : (l : List ℕ) (d first : ℕ) → first < d → latest_of l d (d - first) ≡ cond (eqb (get_or l (d - 1) 0) 1) (Some (d - 1)) (latest_of l (d - 1) (d - 1 - first))
unfolding latest_of
latest_turn l zero first h = absurd (omega arith)
latest_turn l (suc d) first h =
    let e : suc d - first ≡ suc (d - first) = omega arith in
    rw e (simp sub-one)

pub latest_past : (l : List ℕ) (d first : ℕ) → first < d → (get_or l (d - 1) 0 ≡ 1 → ⊥) → latest_of l d (d - first) ≡ latest_of l (d - 1) (d - 1 - first)
latest_past l d first h n = latest_turn l d first h ∙ simp (ne_eqb _ 1 n)

-- n days back from day d, or back to day 0
pub latest_back : (l : List ℕ) (d n : ℕ) → latest_of l d n ≡ latest_of l d (d - (d - n))
unfolding latest_of
latest_back l zero zero = refl
latest_back l zero (suc n) = let e : 0 - (0 - suc n) ≡ 0 = omega arith in rw e
latest_back l (suc d) zero = let e : suc d - (suc d - 0) ≡ 0 = omega arith in rw e
latest_back l (suc d) (suc n) =
    let e : suc d - (suc d - suc n) ≡ suc (d - (d - n)) = omega arith in
    rw e (ap (cond (eqb (get_or l d 0) 1) (Some d)) (latest_back l d n))

-- ---- the weather day near, among the days left: the first ones, from the last back

abbrev pub near_left : List ℕ → ℕ → ℕ → ℕ → Bool
near_left l w zero left = false
near_left l w (suc d) left = near_of l w d left

near-turn : (l : List ℕ) (w d left : ℕ) → near_of l w d left ≡ (not (eqb (bit_and (get_or l d 0) 1) 0) || (not (ltb w 5 && eqb left 0) && near_left l (day_before w) d (business_left w left)))
unfolding near_of
near-turn l w zero left = sym (simp and-false (or-false _))
near-turn l w (suc d) left = refl

-- their bytes
pub record Left (l rest : List ℕ) : Type 0 where
  pub bytes : rest ≡ take (length rest) l
  pub most : length rest ≤ length l

-- days 0 to d
pub left_first : (l rest : List ℕ) (w d : ℕ) → d ≤ final_day → length l ≡ 400 → rest ≡ take (d + 1) l → Left l rest × (weather_near l w d ≡ near_left l w (length rest) 1)
unfolding weather_near
left_first l rest w d h s e =
    let n : length rest ≡ d + 1 = ap length e ∙ length-take-le (d + 1) l (omega arith) in
    let m : length rest ≡ suc d = omega (arith, n) in
    (record { bytes = e ∙ ap (λ (k : ℕ). take k l) (sym n); most = omega (arith, n) }, simp (le-leb d 399 h) (ap (λ (k : ℕ). near_left l w k 1) (sym m)))

-- none
pub left_none : (l rest : List ℕ) (w left : ℕ) → length rest ≡ 0 → near_left l w (length rest) left ≡ false
left_none l rest w left e = ap (λ (n : ℕ). near_left l w n left) e

-- the last of them, and those before
module _ {l rest : List ℕ} (next : List ℕ) (b : ℕ) (g : Left l rest) (e : rest ≡ next ++ (b ∷ [])) where
  count : length rest ≡ suc (length next)
  count = ap length e ∙ length-append next (b ∷ []) ∙ omega arith

  this : get_or l (length next) 0 ≡ b
  this = sym (get_or-take (length rest) l (length next) 0 (omega (arith, count))) ∙ ap (λ (r : List ℕ). get_or r (length next) 0) (sym g.bytes ∙ e) ∙ get_or-append_seam next b [] 0

  pub left_on : Left l next
  left_on = record {
    bytes = sym (take-append_seam next (b ∷ [])) ∙ ap (take (length next)) (sym e ∙ g.bytes) ∙ take-take (length next) (length rest) l (omega (arith, count));
    most = omega (arith, count, g.most);
  }

  module _ (w left : ℕ) where
    turn : near_left l w (length rest) left ≡ (not (eqb (bit_and b 1) 0) || (not (ltb w 5 && eqb left 0) && near_left l (day_before w) (length next) (business_left w left)))
    turn = ap (λ (n : ℕ). near_left l w n left) count ∙ near-turn l w (length next) left ∙ ap (λ (c : ℕ). not (eqb (bit_and c 1) 0) || (not (ltb w 5 && eqb left 0) && near_left l (day_before w) (length next) (business_left w left))) this

    -- a day with the weather bit answers
    pub near_here : (bit_and b 1 ≡ 0 → ⊥) → near_left l w (length rest) left ≡ true
    near_here h = turn ∙ simp (ne_eqb _ 0 h)

    -- so does a business day with none left; any other passes the question on to the day before
    pub near_spent : bit_and b 1 ≡ 0 → w < 5 → left ≡ 0 → near_left l w (length rest) left ≡ false
    near_spent h p q = turn ∙ simp (eq-eqb _ 0 h, lt-ltb w 5 p, eq-eqb left 0 q)

    pub near_weekend : bit_and b 1 ≡ 0 → 5 ≤ w → near_left l w (length rest) left ≡ near_left l (day_before w) (length next) left
    near_weekend h q = turn ∙ simp (eq-eqb _ 0 h, le-ltb w 5 q, le-leb 5 w q)

    pub near_workday : bit_and b 1 ≡ 0 → w < 5 → (left ≡ 0 → ⊥) → near_left l w (length rest) left ≡ near_left l (day_before w) (length next) (left - 1)
    near_workday h q n = turn ∙ simp (eq-eqb _ 0 h, ne_eqb left 0 n, lt-leb 5 w q, and-false)
