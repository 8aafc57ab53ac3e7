-- What one more entry changes of what is read off L, and what it leaves.
-- Assumes nothing.
use Prim.Native.Nat.{ℕ, ◌+◌, ◌≤◌}
use native.Mathlib.Omega.{arith}
use mathlib.Core.Path.{◌≡◌, refl}
use mathlib.Core.Bool.{Bool, true, false, cond, ◌&&◌, ◌||◌}
use mathlib.Core.List.{◌∷◌}
use mathlib.Core.Option.{some}
use lib.Dec.{leb, eqb}
use borrow.Author.Tests.{eq-eqb, ne_eqb}
use Rattle.tariff.specs.Tariff.{cost_of}
use Rattle.terms.specs.declared.Terms.{Terms}
use Rattle.ledger.specs.declared.Event.{Event}
use Rattle.ledger.specs.Event.{is_pay, is_reverse, is_charge, is_estimate, is_read, is_warn, is_mark}
use Rattle.ledger.specs.Entries.{Entries, any, count, sum, find, paid_amount, payment_count, payment, has_number, reversed, estimated, metered, usage_day, usage_cost, read_on, estimate_on, wh_on, price_on, covered}
use Rattle.ledger.specs.Months.{charges_in, month_of}
use Rattle.std.proofs.lemmas.Bool.{and_parts}
use Rattle.ledger.specs.Invariant.{All, UsedBefore}
use Rattle.ledger.proofs.Cases.{decide, other}
use Rattle.ledger.proofs.Prices.{price-same, price-stays, usage-before}
use Rattle.refinement.specs.Agree.{warned_on}

module _ (e : Event) (p : ℕ) (l : Entries) where
  abbrev pub more : Entries
  more = record { event = e; part = p } ∷ l

  pub payments-same : is_pay e ≡ false → payment_count more ≡ payment_count l
  unfolding payment_count count
  payments-same f = simp f (omega arith)

  pub payments-one : is_pay e ≡ true → payment_count more ≡ payment_count l + 1
  unfolding payment_count count
  payments-one f = simp f (omega arith)

  pub payment-same : (n : ℕ) → is_pay e ≡ false → payment more n ≡ payment l n
  unfolding payment find
  payment-same n f = simp f

  pub payment-old : (n : ℕ) → (payment_count l ≡ n → ⊥) → payment more n ≡ payment l n
  unfolding payment find
  payment-old n h = decide (is_pay e) (λ t. simp (t, ne_eqb (payment_count l) n h)) (λ f. simp f)

  pub payment-new : is_pay e ≡ true → payment more (payment_count l) ≡ some (record { event = e; part = p })
  unfolding payment find
  payment-new t = simp (t, eq-eqb (payment_count l) (payment_count l) refl)

  pub amount-limit : (n k : ℕ) → (is_pay e ≡ true → e.amount ≤ k) → paid_amount l n ≤ k → paid_amount more n ≤ k
  unfolding payment find
  amount-limit n k h g = decide (has_number n (record { event = e; part = p }) l)
      (λ t. simp t (h (and_parts (is_pay e) (eqb (payment_count l) n) t).0))
      (λ f. simp f g)

  pub reversed-same : (n : ℕ) → (is_reverse e && eqb e.number n) ≡ false → reversed more n ≡ reversed l n
  unfolding reversed any
  reversed-same n f = simp f

  pub reversed-new : is_reverse e ≡ true → reversed more e.number ≡ true
  unfolding reversed any
  reversed-new t = simp (t, eq-eqb e.number e.number refl)

  wh-same : (q : ℕ → Event → Bool) (u : ℕ) → q u e ≡ false → wh_on more q u ≡ wh_on l q u
  unfolding find
  wh-same q u f = rw f

  wh-new : (q : ℕ → Event → Bool) (u : ℕ) → q u e ≡ true → wh_on more q u ≡ e.wh
  unfolding find
  wh-new q u t = rw t

  -- whatever the event is: a price changes that of no usage day before it
  pub usage-same : (t : Terms) (u : ℕ) → All (UsedBefore e.day) l → estimate_on u e ≡ false → read_on u e ≡ false → usage_day t more u ≡ usage_day t l u
  unfolding usage_day any
  usage-same t u a f g = decide (any (read_on u) l)
      (λ r. simp (f, g, r, wh-same read_on u g, price-stays t (record { event = e; part = p }) l u (usage-before e.day u l a (simp r))))
      (λ r. decide (any (estimate_on u) l)
      (λ i. simp (f, g, r, i, wh-same estimate_on u f, price-stays t (record { event = e; part = p }) l u (usage-before e.day u l a (simp (r, i)))))
      (λ i. simp (f, g, r, i)))

  pub usage-estimated : (t : Terms) → is_estimate e ≡ true → is_read e ≡ false → any (read_on e.usage) l ≡ false
      → usage_day t more e.usage ≡ estimated e.wh (usage_cost t l e)
  unfolding usage_day any
  usage-estimated t i r f =
      let s : eqb e.usage e.usage ≡ true = eq-eqb e.usage e.usage refl in
      simp (wh-new estimate_on e.usage (simp (i, s)), i, r, f, s, price-same t (record { event = e; part = p }) l e.usage (other e.sort 5 12 refl i))

  pub usage-metered : (t : Terms) → is_read e ≡ true → usage_day t more e.usage ≡ metered e.wh (usage_cost t l e)
  unfolding usage_day any
  usage-metered t r =
      let s : eqb e.usage e.usage ≡ true = eq-eqb e.usage e.usage refl in
      simp (wh-new read_on e.usage (simp (r, s)), r, s, price-same t (record { event = e; part = p }) l e.usage (other e.sort 6 12 refl r))

  pub usage-read-before : (t : Terms) → is_read e ≡ false → any (read_on e.usage) l ≡ true
      → usage_day t more e.usage ≡ metered (wh_on l read_on e.usage) (cost_of (wh_on l read_on e.usage) (price_on t more e.usage))
  unfolding usage_day any
  usage-read-before t r m = simp (wh-same read_on e.usage (rw r), r, m)

  pub covered_same : (k d : ℕ) → is_mark e ≡ false → covered more k d ≡ covered l k d
  unfolding covered any
  covered_same k d f = simp f

  pub covered_more : (k d : ℕ) → is_mark e ≡ true → covered more k d ≡ ((eqb e.kind k && (leb e.from d && leb d e.to)) || covered l k d)
  unfolding covered any
  covered_more k d t = simp t

  pub warned-same : (d : ℕ) → (is_warn e && eqb e.day d) ≡ false → warned_on more d ≡ warned_on l d
  unfolding warned_on any
  warned-same d f = simp f

  pub warned-new : is_warn e ≡ true → warned_on more e.day ≡ true
  unfolding warned_on any
  warned-new t = simp (t, eq-eqb e.day e.day refl)

  pub charges-more : (t : Terms) (m k : ℕ) → charges_in t more m k
      ≡ charges_in t l m k + cond (is_charge e && (eqb e.kind k && eqb (month_of t e.day) m)) e.amount 0
  unfolding charges_in sum
  charges-more t m k = refl
