-- Laws of the prices by day: a price posted, and what is in force then. Assumes nothing.
use mathlib.Core.Path.{◌≡◌, refl, sym, ap}
use mathlib.Core.Bool.{true, false, cond, ◌||◌, or-true}
use mathlib.Core.List.{List, [], ◌∷◌}
use Prim.Native.Nat.{ℕ, zero, suc, ◌+◌, ◌≤◌, ◌<◌}
use native.Mathlib.Omega.{arith}
use lib.ListN.{length, length-set, set, replicate}
use lib.Dec.{ltb, leb, eqb}
use borrow.Author.Tests.{ltb-true, ltb-false, le-ltb, lt-leb, le-leb, leb-false, ne_eqb, eq-eqb, eqb-true, eqb-false}
use Rattle.calendar.proofs.Sums.{decide}
use Rattle.tariff.specs.declared.DayPrice.{DayPrice}
use Rattle.tariff.specs.Prices.{day_price, no_price, in_force, price_place, with_price, has_price, opening_prices, NoneTaken, Taken}

-- ---- cells that are not taken

none-priced : (cells : List DayPrice) (d : ℕ) → NoneTaken cells → d < 400 → has_price cells d ≡ false
unfolding has_price
none-priced [] d t h = refl
none-priced (c ∷ cells) d t h = simp (ne_eqb c.day d (λ e. omega (arith, ap (λ (x : DayPrice). x.day) t.0))) (none-priced cells d t.1 h)

none-force : (cells : List DayPrice) (o u : ℕ) → NoneTaken cells → u < 400 → in_force o cells u ≡ o
unfolding in_force
none-force [] o u t h = refl
none-force (c ∷ cells) o u t h = simp (lt-leb c.day u (omega (arith, ap (λ (x : DayPrice). x.day) t.0)))

none-place : (cells : List DayPrice) (x : ℕ) → NoneTaken cells → x < 400 → price_place cells x ≡ 0
none-place [] x t h = refl
none-place (c ∷ cells) x t h = simp (le-ltb c.day x (omega (arith, ap (λ (x : DayPrice). x.day) t.0)))

-- ---- cells of which some are taken

-- none of a day after the last
none-after : (n least last : ℕ) (cells : List DayPrice) → Taken n least last cells → last < least → n ≡ 0
none-after zero least last cells t h = refl
none-after (suc n) least last [] t h = absurd t
none-after (suc n) least last (c ∷ cells) t h = omega (arith, t.0, t.1)

-- up to day 0 there is day 0's alone
pub taken-first : (n : ℕ) (cells : List DayPrice) → Taken (suc n) 0 0 cells → n ≡ 0
taken-first n [] t = absurd t
taken-first n (c ∷ cells) t = none-after n (suc c.day) 0 cells t.2 (omega arith)

pub taken-longer : (n least last later : ℕ) (cells : List DayPrice) → Taken n least last cells → last ≤ later → Taken n least later cells
taken-longer zero least last later cells t h = t
taken-longer (suc n) least last later [] t h = absurd t
taken-longer (suc n) least last later (c ∷ cells) t h = (t.0, omega (arith, t.1), taken-longer n (suc c.day) last later cells t.2 h)

-- The place of a day that is not before the last: the last taken cell where that is the day's, else the first that is not taken.
pub place-is : (n least last x : ℕ) (cells : List DayPrice) → Taken n least last cells → last ≤ x → x < 400
    → price_place cells x + cond (has_price cells x) 1 0 ≡ n
unfolding has_price
place-is zero least last x cells t h k = simp (none-priced cells x t k, none-place cells x t k)
place-is (suc n) least last x [] t h k = absurd t
place-is (suc n) least last x (c ∷ cells) t h k = decide (ltb c.day x)
    (λ y. simp (y, ne_eqb c.day x (λ e. omega (arith, ltb-true c.day x y))) (omega (arith, place-is n (suc c.day) last x cells t.2 h k)))
    (λ f. simp (f, eq-eqb c.day x (omega (arith, ltb-false c.day x f, t.1))) (omega (arith, none-after n (suc c.day) last cells t.2 (omega (arith, ltb-false c.day x f)))))

-- ---- a price p posted on day x

place-next : (c : DayPrice) (cells : List DayPrice) (x : ℕ) → ltb c.day x ≡ true → price_place (c ∷ cells) x ≡ suc (price_place cells x)
place-next c cells x y = simp y (omega arith)

place-here : (c : DayPrice) (cells : List DayPrice) (x : ℕ) → ltb c.day x ≡ false → price_place (c ∷ cells) x ≡ 0
place-here c cells x f = simp f

-- the cells with it in place k, which is there
abbrev priced : List DayPrice → ℕ → ℕ → ℕ → List DayPrice
priced cells k x p = set cells k (day_price x p)

pub record Priced (cells : List DayPrice) (k least x p : ℕ) : Type 0 where
  pub taken : Taken (suc k) least x (priced cells k x p)
  -- in force from its day on
  pub force : (o u : ℕ) → u < 400 → in_force o (priced cells k x p) u ≡ cond (leb x u) p (in_force o cells u)
  pub days : (d : ℕ) → d < 400 → has_price (priced cells k x p) d ≡ (eqb x d || has_price cells d)

pub priced-is : (n least last x p : ℕ) (cells : List DayPrice) → Taken n least last cells → least ≤ x → last ≤ x → x < 400
    → price_place cells x < length cells → Priced cells (price_place cells x) least x p
unfolding in_force has_price
priced-is zero least last x p [] t g h k r = absurd (omega (arith, r))
priced-is zero least last x p (c ∷ cells) t g h k r =
    let free : c.day ≡ 400 = ap (λ (y : DayPrice). y.day) t.0 in
    rw (place-here c cells x (le-ltb c.day x (omega arith))) (record {
      taken = (g, omega arith, t.1);
      force = λ o u v. simp (lt-leb c.day u (omega arith), none-force cells p u t.1 v);
      days = λ d v. simp (ne_eqb c.day d (λ e. omega arith));
    })
priced-is (suc n) least last x p [] t g h k r = absurd t
priced-is (suc n) least last x p (c ∷ cells) t g h k r = decide (ltb c.day x)
    (λ y. let s = priced-is n (suc c.day) last x p cells t.2 (ltb-true c.day x y) h k (omega (arith, place-next c cells x y)) in
    rw (place-next c cells x y) (record {
      taken = (t.0, omega (arith, ltb-true c.day x y), s.taken);
      force = λ o u v. decide (leb c.day u)
          (λ z. simp z (s.force c.price u v))
          (λ z. simp (z, lt-leb x u (omega (arith, ltb-true c.day x y, leb-false c.day u z))));
      days = λ d v. rw (s.days d v) (decide (eqb x d) (λ z. simp (z, or-true)) (λ z. simp z));
    }))
    (λ f. let e : c.day ≡ x = omega (arith, ltb-false c.day x f, t.1) in
    let z : n ≡ 0 = none-after n (suc c.day) last cells t.2 (omega arith) in
    let free : NoneTaken cells = rw z at t.2 in
    rw (place-here c cells x f) (record {
      taken = (g, omega arith, free);
      force = λ o u v. rw (e, none-force cells p u free v) (decide (leb x u) (λ y. simp y) (λ y. simp y));
      days = λ d v. rw e (decide (eqb x d) (λ y. simp y) (λ y. simp y));
    }))

pub with_price-length : (cells : List DayPrice) (k x p : ℕ) → length (with_price cells k x p) ≡ length cells
with_price-length cells k x p = decide (ltb k 17) (λ y. simp (y, length-set)) (λ f. simp f)

-- ---- a fresh account's

none-replicate : (n : ℕ) → NoneTaken (replicate n no_price)
none-replicate zero = tt
none-replicate (suc n) = (refl, none-replicate n)

pub opening-taken : (o : ℕ) → Taken 1 0 0 (opening_prices o)
opening-taken o = (omega arith, omega arith, none-replicate 16)

pub opening-force : (o u : ℕ) → u < 400 → in_force o (opening_prices o) u ≡ o
unfolding in_force
opening-force o u h = simp (none-force (replicate 16 no_price) o u (none-replicate 16) h, le-leb 0 u (omega arith))

pub opening-days : (o d : ℕ) → d < 400 → has_price (opening_prices o) d ≡ eqb d 0
unfolding has_price
opening-days o d h = simp (none-priced (replicate 16 no_price) d (none-replicate 16) h) (decide (eqb d 0)
    (λ y. rw (eqb-true d 0 y) refl)
    (λ f. simp (f, ne_eqb 0 d (λ e. eqb-false d 0 f (sym e)))))
