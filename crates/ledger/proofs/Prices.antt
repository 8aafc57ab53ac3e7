-- Laws of the price in force and of the days that have a price, by one more entry. Assumes nothing.
use mathlib.Core.Path.{◌≡◌, refl, sym}
use mathlib.Core.Bool.{true, false, cond, ◌||◌, and-false, or-true, true≢false}
use mathlib.Core.List.{[], ◌∷◌}
use Prim.Native.Nat.{ℕ, ◌+◌, ◌≤◌, ◌<◌}
use native.Mathlib.Omega.{arith}
use lib.Dec.{leb, eqb}
use borrow.Author.Tests.{lt-leb, lt-ltb, eqb-true}
use Rattle.std.proofs.lemmas.Bool.{and_parts, or_parts}
use Rattle.std.proofs.lemmas.Bool.Decides.{nat_tests}
use Rattle.terms.specs.declared.Terms.{Terms}
use Rattle.ledger.specs.declared.Event.{Event}
use Rattle.ledger.specs.Event.{is_estimate, is_read, is_price, posted_price, in_limits}
use Rattle.ledger.specs.Entries.{Entry, Entries, any, sum, read_on, estimate_on, price_on, priced, price_days}
use Rattle.ledger.specs.Invariant.{All, UsedBefore}
use Rattle.ledger.proofs.Cases.{decide}

-- ---- the price in force

-- an entry that is no price changes none
pub price-same : (t : Terms) (x : Entry) (l : Entries) (u : ℕ) → is_price x.event ≡ false → price_on t (x ∷ l) u ≡ price_on t l u
unfolding price_on
price-same t x l u f = simp f

-- that of a day before the newest event's stays
pub price-stays : (t : Terms) (x : Entry) (l : Entries) (u : ℕ) → u < x.event.day → price_on t (x ∷ l) u ≡ price_on t l u
unfolding price_on
price-stays t x l u h = simp (lt-leb x.event.day u h, and-false (is_price x.event))

-- a price is in force from its day on
pub price-new : (t : Terms) (x : Entry) (l : Entries) (u : ℕ) → is_price x.event ≡ true
    → price_on t (x ∷ l) u ≡ cond (leb x.event.day u) (posted_price x.event) (price_on t l u)
unfolding price_on
price-new t x l u y = simp y

-- without a price in L it is the opening price
pub price-opening : (t : Terms) (l : Entries) (u : ℕ) → any is_price l ≡ false → price_on t l u ≡ t.price
unfolding price_on any
price-opening t [] u f = refl
price-opening t (x ∷ l) u f = let n = or_parts (is_price x.event) (any is_price l) f in simp n.0 (price-opening t l u n.1)

-- "from 1 to 99,999"
pub price-limits : (e : Event) → e.sort ≡ 12 → in_limits e ≡ true → (1 ≤ e.amount) × (e.amount ≤ 99999)
unfolding in_limits
price-limits e s h = (grind (arith, nat_tests), grind (arith, nat_tests))

-- a usage day of which L has an estimate or a read is before d where every entry's is
pub usage-before : (d u : ℕ) (l : Entries) → All (UsedBefore d) l → any (read_on u) l || any (estimate_on u) l ≡ true → u < d
unfolding any
usage-before d u [] a y = absurd (true≢false (sym y))
usage-before d u (x ∷ l) a y = decide (read_on u x.event)
    (λ r. let b = and_parts (is_read x.event) (eqb x.event.usage u) r in
    omega (arith, a.0 (rw b.0 (or-true (is_estimate x.event))), eqb-true x.event.usage u b.1))
    (λ r. decide (estimate_on u x.event)
    (λ e. let b = and_parts (is_estimate x.event) (eqb x.event.usage u) e in
    omega (arith, a.0 (rw b.0 refl), eqb-true x.event.usage u b.1))
    (λ e. usage-before d u l a.1 (simp (r, e) at y)))

-- ---- the days that have a price

pub priced-same : (x : Entry) (l : Entries) (d : ℕ) → is_price x.event ≡ false → priced (x ∷ l) d ≡ priced l d
unfolding priced any
priced-same x l d f = simp f

pub priced-new : (x : Entry) (l : Entries) (d : ℕ) → is_price x.event ≡ true → 0 < x.event.day → priced (x ∷ l) d ≡ (eqb x.event.day d || priced l d)
unfolding priced any
priced-new x l d y h = decide (eqb x.event.day d)
    (λ e. simp (y, e, lt-ltb 0 d (omega (arith, h, eqb-true x.event.day d e))))
    (λ e. simp (y, e))

-- a price of day 0 counts for none
pub priced-opening : (x : Entry) (l : Entries) (d : ℕ) → x.event.day ≡ 0 → priced (x ∷ l) d ≡ priced l d
unfolding priced any
priced-opening x l d z = decide (eqb x.event.day d)
    (λ e. let h : d ≡ 0 = omega (arith, z, eqb-true x.event.day d e) in rw h refl)
    (λ e. simp (e, and-false (is_price x.event)))

-- how many there are: one more where day x, after day 0, had none
pub days-same : (x : Entry) (l : Entries) → is_price x.event ≡ false → price_days (x ∷ l) ≡ price_days l
unfolding price_days sum
days-same x l f = simp f (omega arith)

pub days-opening : (x : Entry) (l : Entries) → x.event.day ≡ 0 → price_days (x ∷ l) ≡ price_days l
unfolding price_days sum
days-opening x l z = rw z (simp and-false (omega arith))

pub days-new : (x : Entry) (l : Entries) → is_price x.event ≡ true → 0 < x.event.day → price_days (x ∷ l) ≡ price_days l + cond (priced l x.event.day) 0 1
unfolding price_days sum
days-new x l y h = simp (y, lt-ltb 0 x.event.day h) (decide (priced l x.event.day) (λ t. simp t) (λ f. simp f))
