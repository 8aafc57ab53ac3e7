-- The account identity: B and R are what the sums over L make them. About the ledger alone.
-- Assumes nothing.
use mathlib.Core.Path.{◌≡◌, refl, sym, ap, ◌∙◌}
use mathlib.Core.Bool.{Bool, true, false, cond, not, ◌&&◌, ◌||◌, or-true, and-true, true≢false}
use mathlib.Core.List.{[], ◌∷◌}
use Prim.Native.Nat.{ℕ, ◌+◌, ◌-◌, ◌≤◌, ◌<◌}
use native.Mathlib.Nat.{mul-le-mul_left}
use native.Mathlib.Omega.{arith}
use lib.Dec.{ltb, leb, eqb}
use lib.IntN.{pos, ◌+ℤ◌, ◌-ℤ◌, +ℤ_idr}
use borrow.Author.Tests.{ltb-true, ltb-false, leb-false, eqb-true, not-true, not-false}
use Rattle.std.proofs.lemmas.Bool.{and_parts, or_parts}
use Rattle.std.proofs.lemmas.Bool.Decides.{nat_tests}
use Rattle.tariff.specs.Tariff.{cost_of}
use Rattle.terms.specs.declared.Terms.{Terms}
use Rattle.terms.specs.Terms.{max_share, max_price, valid_terms}
use Rattle.ledger.specs.declared.Event.{Event}
use Rattle.ledger.specs.Event.{is_pay, is_reverse, is_credit, is_charge, is_estimate, is_read, is_plan, is_disconnect, is_connect, is_price}
use Rattle.ledger.specs.Entries.{usage_cost, Entry, Entries, any, count, sum, sum_of, amount_of, find, or_zero, paid_amount, paid_part, last_day, payment_count, has_number, payment, reversed, price_on, priced, price_days, UsageDay, read_on, estimate_on, wh_on, usage_day, is_blank, is_metered, estimate_cost_of, is_kept}
use Rattle.ledger.specs.Sums.{kept_total, credit_total, charge_total, read_cost, settled, standing_cost}
use Rattle.ledger.specs.Rules.{Ledger, may_defer, refusals}
use Rattle.ledger.specs.Ledger.{opening, Effect, plan_part, pay_effect, reverse_effect, balance_effect, service_effect, estimate_effect, read_effect, deferred, plan_effect, effect_of, joined, accepts, ledger_step}
use Rattle.ledger.proofs.Cases.{decide, other}
use Rattle.ledger.proofs.Money.{diff, diff-eq, diff-add, diff-sub, diff-gap, diff-zero, diff-high, by_sign}
use Rattle.ledger.proofs.Accepted.{Accepted, accepted-by}
use Rattle.ledger.proofs.Prices.{price-same, price-stays, price-new, price-limits, days-same, days-opening, days-new}
use Rattle.ledger.specs.Invariant.{All, UsedBefore, Invariant}
use Rattle.ledger.proofs.Weights.{all_map, sum_same, take_out, one-weighs, given-once}

pub invariant-opening : (t : Terms) → t.share ≤ max_share → (1 ≤ t.price) × (t.price ≤ max_price) → Invariant t opening
unfolding kept_total credit_total charge_total read_cost standing_cost sum reversed any payment find count price_on price_days
invariant-opening t h p = record {
  identity = refl;
  share = h;
  numbers = λ n r. absurd (true≢false (sym r));
  parts = λ n. omega arith;
  once = λ u. omega arith;
  past = tt;
  prices = λ u. p;
  days = omega arith;
}

-- "`share`: 0 to 50"; "`price`: 1 to 99,999"
pub invariant-valid : (t : Terms) → valid_terms t ≡ true → Invariant t opening
unfolding valid_terms
invariant-valid t v = invariant-opening t (grind (arith, nat_tests)) (grind (arith, nat_tests), grind (arith, nat_tests))

pub settled_is : (t : Terms) (l : Ledger) → Invariant t l → l.balance -ℤ pos l.plan +ℤ pos (standing_cost t l.list) ≡ settled t l.list
unfolding settled
settled_is t l s =
    let c : ℕ = kept_total l.list + credit_total l.list in
    let d : ℕ = charge_total l.list + read_cost t l.list in
    let e : ℕ = standing_cost t l.list in
    rw (s.identity, diff-sub (c + l.plan) (d + e) l.plan, diff-add (c + l.plan) (d + e + l.plan) e) (diff-eq (c + l.plan + e) (d + e + l.plan) c d (omega arith))

-- ---- a usage day, by its reads and estimates

module _ (t : Terms) (l : Entries) (u : ℕ) where
  pub metered-is : is_metered (usage_day t l u) ≡ any (read_on u) l
  unfolding usage_day
  metered-is = decide (any (read_on u) l) (λ r. simp r) (λ r. decide (any (estimate_on u) l) (λ e. simp (r, e)) (λ e. simp (r, e)))

  pub blank-is : is_blank (usage_day t l u) ≡ not (any (read_on u) l || any (estimate_on u) l)
  unfolding usage_day
  blank-is = decide (any (read_on u) l) (λ r. simp r) (λ r. decide (any (estimate_on u) l) (λ e. simp (r, e)) (λ e. simp (r, e)))

  pub estimate-cost-is : any (read_on u) l ≡ false → estimate_cost_of (usage_day t l u) ≡ cond (any (estimate_on u) l) (cost_of (wh_on l estimate_on u) (price_on t l u)) 0
  unfolding usage_day
  estimate-cost-is r = decide (any (estimate_on u) l) (λ e. simp (r, e)) (λ e. simp (r, e))

-- ---- what one more entry does to the sums

cond_same : (b : Bool) (m n : ℕ) → (b ≡ true → m ≡ n) → cond b m 0 ≡ cond b n 0
cond_same true m n h = h refl
cond_same false m n h = refl

none-counts : (p : Event → Bool) (l : Entries) → any p l ≡ false → count p l ≡ 0
unfolding any count
none-counts p [] f = refl
none-counts p (x ∷ l) f = let n = or_parts (p x.event) (any p l) f in simp n.0 (omega (arith, none-counts p l n.1))

count-weighs : (p : Event → Bool) (l : Entries) → sum_of (λ x b. p x.event) (λ x. 1) l ≡ count p l
unfolding count sum
count-weighs p [] = refl
count-weighs p (x ∷ l) = omega (arith, count-weighs p l)

-- the cost of the one estimate of day u
found-costs : (price : ℕ → ℕ) (u : ℕ) (l : Entries)
    → or_zero (λ x. cost_of x.event.wh (price x.event.usage)) (find (λ x b. estimate_on u x.event) l)
    ≡ cond (any (estimate_on u) l) (cost_of (wh_on l estimate_on u) (price u)) 0
unfolding find any
found-costs price u [] = refl
found-costs price u (x ∷ l) = decide (estimate_on u x.event)
    (λ t. simp t (ap (λ (v : ℕ). cost_of x.event.wh (price v)) (eqb-true x.event.usage u (and_parts (is_estimate x.event) (eqb x.event.usage u) t).1)))
    (λ f. simp f (found-costs price u l))

module _ (t : Terms) (l : Entries) (x : Entry) (past : All (UsedBefore x.event.day) l) (now : UsedBefore x.event.day x) where
  cost-stays : (y : Entry) → UsedBefore x.event.day y → (is_estimate y.event || is_read y.event) ≡ true → usage_cost t (x ∷ l) y.event ≡ usage_cost t l y.event
  cost-stays y h u = ap (cost_of y.event.wh) (price-stays t x l y.event.usage (h u))

  read_stays : (y : Entry) → UsedBefore x.event.day y → cond (is_read y.event) (usage_cost t (x ∷ l) y.event) 0 ≡ cond (is_read y.event) (usage_cost t l y.event) 0
  read_stays y h = cond_same (is_read y.event) _ _ (λ r. cost-stays y h (rw r (or-true (is_estimate y.event))))

  reads_then : read_cost t (x ∷ l) ≡ read_cost t l + cond (is_read x.event) (usage_cost t l x.event) 0
  unfolding read_cost sum
  reads_then = omega (arith, sum_same (UsedBefore x.event.day) _ _ (λ y b h. read_stays y h) l past, read_stays x now)

  standing-stays : (q : ℕ → Bool) (y : Entry) → UsedBefore x.event.day y
      → cond (is_estimate y.event && not (q y.event.usage)) (usage_cost t (x ∷ l) y.event) 0 ≡ cond (is_estimate y.event && not (q y.event.usage)) (usage_cost t l y.event) 0
  standing-stays q y h = cond_same (is_estimate y.event && not (q y.event.usage)) _ _ (λ s. cost-stays y h (rw (and_parts (is_estimate y.event) (not (q y.event.usage)) s).0))

  -- the estimates that stand, at the old prices
  standing-new : standing_cost t (x ∷ l)
      ≡ sum_of (λ y b. is_estimate y.event && not (any (read_on y.event.usage) (x ∷ l))) (λ y. usage_cost t l y.event) l
      + cond (is_estimate x.event && not (any (read_on x.event.usage) (x ∷ l))) (usage_cost t l x.event) 0
  unfolding standing_cost sum
  standing-new = omega (
    arith,
    sum_same (UsedBefore x.event.day) _ _ (λ y b h. standing-stays (λ v. any (read_on v) (x ∷ l)) y h) l past,
    standing-stays (λ v. any (read_on v) (x ∷ l)) x now,
  )

-- the estimate that a read replaces
pub replaced : (t : Terms) (l : Entries) (u : ℕ) → count (estimate_on u) l ≤ 1 → any (read_on u) l ≡ false
    → sum_of (λ y b. is_estimate y.event && eqb y.event.usage u) (λ y. usage_cost t l y.event) l ≡ estimate_cost_of (usage_day t l u)
replaced t l u h f =
    one-weighs (λ y b. estimate_on u y.event) (λ y. usage_cost t l y.event) l (omega (arith, count-weighs (estimate_on u) l))
    ∙ found-costs (price_on t l) u l
    ∙ sym (estimate-cost-is t l u f)

abbrev entry_of : Event → ℕ → Entry
entry_of e p = record { event = e; part = p }

-- what comes in and what goes out, of B and R together
inflow : Terms → Ledger → Event → ℕ
inflow t l e = cond (is_pay e) e.amount 0 + cond (is_credit e) e.amount 0 + cond (is_read e) (estimate_cost_of (usage_day t l.list e.usage)) 0

outflow : Terms → Ledger → Event → ℕ
outflow t l e =
    cond (is_reverse e) (paid_amount l.list e.number) 0
    + cond (is_charge e) e.amount 0
    + cond (is_estimate e) (usage_cost t l.list e) 0
    + cond (is_read e) (usage_cost t l.list e) 0

module _ (t : Terms) (l : Ledger) (e : Event) (p : ℕ) (s : Invariant t l) (a : Accepted t l e) where
  pub past-then : All (UsedBefore e.day) l.list
  past-then = all_map (UsedBefore (last_day l.list)) (UsedBefore e.day) (λ y h u. omega (arith, h u, a.order)) l.list s.past

  used-before : UsedBefore e.day (entry_of e p)
  unfolding refusals
  used-before u = leb-false e.day e.usage (simp u at (a.rule 7))

  -- an estimate takes a blank day, a read one without a read
  blank-before : is_estimate e ≡ true → (any (read_on e.usage) l.list ≡ false) × (any (estimate_on e.usage) l.list ≡ false)
  unfolding refusals
  blank-before i =
      let d : UsageDay = usage_day t l.list e.usage in
      let b : is_blank d ≡ true = not-false (is_blank d) (simp i at (or_parts (is_estimate e && not (is_blank d)) (is_read e && is_metered d) (a.rule 8)).0) in
      or_parts _ _ (not-true _ (sym (blank-is t l.list e.usage) ∙ b))

  unread : is_read e ≡ true → any (read_on e.usage) l.list ≡ false
  unfolding refusals
  unread r =
      let d : UsageDay = usage_day t l.list e.usage in
      sym (metered-is t l.list e.usage) ∙ (simp r at (or_parts (is_estimate e && not (is_blank d)) (is_read e && is_metered d) (a.rule 8)).1)

  pub standing-then : standing_cost t (entry_of e p ∷ l.list) + cond (is_read e) (estimate_cost_of (usage_day t l.list e.usage)) 0
      ≡ standing_cost t l.list + cond (is_estimate e) (usage_cost t l.list e) 0
  unfolding standing_cost any
  standing-then = decide (is_read e)
      (λ r. let i : is_estimate e ≡ false = other e.sort 6 5 refl r in
      let f : any (read_on e.usage) l.list ≡ false = unread r in
      simp (r, i) (omega (
        arith,
        simp (r, i) at new,
        take_out (λ y. is_estimate y.event) (λ y b. y.event.usage) (λ y. usage_cost t l.list y.event) (λ v. any (read_on v) l.list) e.usage f l.list,
        replaced t l.list e.usage (s.once e.usage) f,
      )))
      (λ r. decide (is_estimate e)
      (λ i. simp (r, i) (omega (arith, simp (r, i, (blank-before i).0) at new)))
      (λ i. simp (r, i) (omega (arith, simp (r, i) at new))))
    where
      new : standing_cost t (entry_of e p ∷ l.list)
          ≡ sum_of (λ y b. is_estimate y.event && not (any (read_on y.event.usage) (entry_of e p ∷ l.list))) (λ y. usage_cost t l.list y.event) l.list
          + cond (is_estimate e && not (any (read_on e.usage) (entry_of e p ∷ l.list))) (usage_cost t l.list e) 0
      new = standing-new t l.list (entry_of e p) past-then used-before

  unreversed : reversed l.list (payment_count l.list) ≡ false
  unreversed = decide (reversed l.list (payment_count l.list)) (λ r. absurd (omega (arith, s.numbers _ r))) (λ f. f)

  -- what e leaves of the payments kept before it
  kept-before : (v : Bool) → is_reverse e ≡ v → sum_of (is_kept (entry_of e p ∷ l.list)) amount_of l.list
      ≡ sum_of (λ x b. is_pay x.event && not (v && eqb e.number (payment_count b) || reversed l.list (payment_count b))) amount_of l.list
  unfolding reversed any
  kept-before v r = ap (λ (w : Bool). sum_of (λ x b. is_pay x.event && not (w && eqb e.number (payment_count b) || reversed l.list (payment_count b))) amount_of l.list) r

  kept_then : kept_total (entry_of e p ∷ l.list) + cond (is_reverse e) (paid_amount l.list e.number) 0
      ≡ kept_total l.list + cond (is_pay e) e.amount 0
  unfolding kept_total sum reversed any payment refusals
  kept_then = decide (is_reverse e)
      (λ r. let i : is_pay e ≡ false = other e.sort 2 1 refl r in
      let f : reversed l.list e.number ≡ false = (or_parts (leb (payment_count l.list) e.number) (reversed l.list e.number) (simp r at (a.rule 6))).1 in
      simp (r, i) (omega (
        arith,
        kept-before true r,
        take_out (λ y. is_pay y.event) (λ y b. payment_count b) (λ y. y.event.amount) (λ n. reversed l.list n) e.number f l.list,
        one-weighs (has_number e.number) amount_of l.list (given-once e.number l.list),
      )))
      (λ r. decide (is_pay e)
      (λ i. simp (r, i, unreversed) (omega (arith, kept-before false r)))
      (λ i. simp (r, i) (omega (arith, kept-before false r))))

  net : let k = entry_of e p ∷ l.list in
      kept_total k + credit_total k + (charge_total l.list + read_cost t l.list + standing_cost t l.list) + outflow t l e
      ≡ kept_total l.list + credit_total l.list + (charge_total k + read_cost t k + standing_cost t k) + inflow t l e
  unfolding credit_total charge_total sum inflow outflow
  net = omega (arith, kept_then, standing-then, reads_then t l.list (entry_of e p) past-then used-before)

-- ---- what one event does to B and R

record Fits (t : Terms) (l : Ledger) (e : Event) (m : Effect) : Type 0 where
  fits : let k = entry_of e m.part ∷ l.list in m.balance ≡ diff (kept_total k + credit_total k + m.plan) (charge_total k + read_cost t k + standing_cost t k)
  least : m.part ≤ e.amount

module _ (t : Terms) (l : Ledger) (e : Event) (s : Invariant t l) (a : Accepted t l e) where
  -- B moves by i - o, R as the flow leaves it
  settle : (m : Effect) (i o : ℕ) → m.balance ≡ l.balance +ℤ pos i -ℤ pos o → l.plan + i + outflow t l e ≡ m.plan + o + inflow t l e → m.part ≤ e.amount → Fits t l e m
  settle m i o b f h =
      let k : Entries = entry_of e m.part ∷ l.list in
      let c : ℕ = kept_total l.list + credit_total l.list + l.plan in
      let d : ℕ = charge_total l.list + read_cost t l.list + standing_cost t l.list in
      record {
        fits = b ∙ rw (s.identity, diff-add c d i, diff-sub (c + i) d o) (diff-eq (c + i) (d + o) (kept_total k + credit_total k + m.plan) (charge_total k + read_cost t k + standing_cost t k) (omega (arith, net t l e m.part s a)));
        least = h;
      }

  pay-fits : e.sort ≡ 1 → Fits t l e (pay_effect t l e)
  unfolding pay_effect plan_part inflow outflow
  pay-fits k =
      let p : ℕ = plan_part t l e.amount in
      let h : p ≤ e.amount = omega (arith, mul-le-mul_left e.amount s.share) in
      settle (pay_effect t l e) (e.amount - p) 0 (simp +ℤ_idr) (rw k (omega arith)) (omega arith)

  reverse-fits : e.sort ≡ 2 → Fits t l e (reverse_effect l e)
  unfolding reverse_effect inflow outflow
  reverse-fits k = settle (reverse_effect l e) 0 (paid_amount l.list e.number - paid_part l.list e.number) (simp +ℤ_idr) (rw k (omega (arith, s.parts e.number))) (omega arith)

  credit-fits : e.sort ≡ 3 → Fits t l e (balance_effect l 0 (l.balance +ℤ pos e.amount))
  unfolding inflow outflow
  credit-fits k = settle _ e.amount 0 (simp +ℤ_idr) (rw k (omega arith)) (omega arith)

  charge-fits : e.sort ≡ 4 → Fits t l e (balance_effect l 0 (l.balance -ℤ pos e.amount))
  unfolding inflow outflow
  charge-fits k = settle _ 0 e.amount (simp +ℤ_idr) (rw k (omega arith)) (omega arith)

  estimate-fits : e.sort ≡ 5 → Fits t l e (estimate_effect t l e)
  unfolding estimate_effect inflow outflow
  estimate-fits k = settle (estimate_effect t l e) 0 (usage_cost t l.list e) (simp +ℤ_idr) (rw k (omega arith)) (omega arith)

  read_fits : e.sort ≡ 6 → Fits t l e (read_effect t l e)
  unfolding read_effect inflow outflow
  read_fits k = settle (read_effect t l e) (estimate_cost_of (usage_day t l.list e.usage)) (usage_cost t l.list e) refl (rw k (omega arith)) (omega arith)

  -- a plan is for a B below 0
  owes : may_defer t l e ≡ true → (n : ℕ) → l.balance ≡ pos n → ⊥
  unfolding may_defer
  owes h n b = decide (eqb e.kind 1)
      (λ k. true≢false (sym (simp (k, b) at h)))
      (λ k. omega (arith, ltb-true n 0 (simp (k, b) at h)))

  -- and D takes it to `connect`
  deferred-is : may_defer t l e ≡ true → pos t.connect ≡ l.balance +ℤ pos (deferred t l)
  unfolding deferred
  deferred-is h =
      let c : ℕ = kept_total l.list + credit_total l.list + l.plan in
      let d : ℕ = charge_total l.list + read_cost t l.list + standing_cost t l.list in
      let short : c ≤ d = by_sign c d (λ g. absurd (owes h (c - d) (s.identity ∙ diff-high c d g))) (λ g. omega arith) in
      rw (s.identity, diff-gap c d t.connect short, diff-add c d (t.connect + d - c)) (diff-zero t.connect ∙ diff-eq t.connect 0 (c + (t.connect + d - c)) d (omega arith))

  plan-fits : is_plan e ≡ true → Fits t l e (plan_effect t l)
  unfolding plan_effect inflow outflow refusals
  plan-fits y = settle (plan_effect t l) (deferred t l) 0 (simp +ℤ_idr (deferred-is (not-false (may_defer t l e) (simp y at (a.rule 9))))) (rw (eqb-true e.sort 9 y) (omega arith)) (omega arith)

  -- the rest move nothing
  still : is_pay e ≡ false → is_reverse e ≡ false → is_credit e ≡ false → is_charge e ≡ false → is_estimate e ≡ false → is_read e ≡ false → (b : Bool) → Fits t l e (service_effect l b)
  unfolding inflow outflow
  still f₁ f₂ f₃ f₄ f₅ f₆ b = settle (service_effect l b) 0 0 (simp +ℤ_idr) (simp (f₁, f₂, f₃, f₄, f₅, f₆) (omega arith)) (omega arith)

  move-fits : Fits t l e (effect_of t l e)
  unfolding effect_of
  move-fits =
      decide (is_pay e) (λ k. simp k (pay-fits (eqb-true e.sort 1 k)))
      (λ f₁. decide (is_reverse e) (λ k. simp (f₁, k) (reverse-fits (eqb-true e.sort 2 k)))
      (λ f₂. decide (is_credit e) (λ k. simp (f₁, f₂, k) (credit-fits (eqb-true e.sort 3 k)))
      (λ f₃. decide (is_charge e) (λ k. simp (f₁, f₂, f₃, k) (charge-fits (eqb-true e.sort 4 k)))
      (λ f₄. decide (is_estimate e) (λ k. simp (f₁, f₂, f₃, f₄, k) (estimate-fits (eqb-true e.sort 5 k)))
      (λ f₅. decide (is_read e) (λ k. simp (f₁, f₂, f₃, f₄, f₅, k) (read_fits (eqb-true e.sort 6 k)))
      (λ f₆. decide (is_plan e) (λ k. simp (f₁, f₂, f₃, f₄, f₅, f₆, k) (plan-fits k))
      (λ f₉. decide (is_disconnect e) (λ k. simp (f₁, f₂, f₃, f₄, f₅, f₆, f₉, k) (still f₁ f₂ f₃ f₄ f₅ f₆ false))
      (λ f. decide (is_connect e) (λ k. simp (f₁, f₂, f₃, f₄, f₅, f₆, f₉, f, k) (still f₁ f₂ f₃ f₄ f₅ f₆ true))
      (λ g. simp (f₁, f₂, f₃, f₄, f₅, f₆, f₉, f, g) (still f₁ f₂ f₃ f₄ f₅ f₆ l.on))))))))))

  -- ---- what else stays

  numbers-then : (p n : ℕ) → reversed (entry_of e p ∷ l.list) n ≡ true → n < payment_count (entry_of e p ∷ l.list)
  unfolding reversed any payment_count count refusals
  numbers-then p n r = decide (is_reverse e && eqb e.number n)
      (λ y. let b = and_parts (is_reverse e) (eqb e.number n) y in
      let given = leb-false (payment_count l.list) e.number (or_parts (leb (payment_count l.list) e.number) (reversed l.list e.number) (simp b.0 at (a.rule 6))).0 in
      omega (arith, given, eqb-true e.number n b.1))
      (λ f. omega (arith, s.numbers n (simp f at r)))

  parts_then : (p n : ℕ) → p ≤ e.amount → paid_part (entry_of e p ∷ l.list) n ≤ paid_amount (entry_of e p ∷ l.list) n
  unfolding payment find
  parts_then p n h = decide (has_number n (entry_of e p) l.list) (λ y. simp y h) (λ f. simp f (s.parts n))

  once-then : (p u : ℕ) → count (estimate_on u) (entry_of e p ∷ l.list) ≤ 1
  unfolding count
  once-then p u = decide (estimate_on u e)
      (λ y. let b = and_parts (is_estimate e) (eqb e.usage u) y in
      simp y (omega (arith, none-counts (estimate_on u) l.list (rw (eqb-true e.usage u b.1) at (blank-before t l e p s a b.0).1))))
      (λ f. simp f (omega (arith, s.once u)))

  prices-then : (p u : ℕ) → (1 ≤ price_on t (entry_of e p ∷ l.list) u) × (price_on t (entry_of e p ∷ l.list) u ≤ 99999)
  prices-then p u = decide (is_price e)
      (λ y. let k : e.sort ≡ 12 = eqb-true e.sort 12 y in
      rw (price-new t (entry_of e p) l.list u y) (decide (leb e.day u) (λ b. simp b (price-limits e k a.limits)) (λ b. simp b (s.prices u))))
      (λ f. rw (price-same t (entry_of e p) l.list u f) (s.prices u))

  days-then : (p : ℕ) → price_days (entry_of e p ∷ l.list) ≤ 16
  unfolding refusals
  days-then p = decide (is_price e)
      (λ y. decide (ltb 0 e.day)
      (λ d. rw (days-new (entry_of e p) l.list y (ltb-true 0 e.day d)) (decide (priced l.list e.day)
      (λ q. simp q (omega (arith, s.days)))
      (λ q. simp q (omega (arith, leb-false 16 (price_days l.list) (simp (y, q, and-true) at (a.rule 17)))))))
      (λ d. rw (days-opening (entry_of e p) l.list (omega (arith, ltb-false 0 e.day d))) s.days))
      (λ f. rw (days-same (entry_of e p) l.list f) s.days)

  invariant-then : (m : Effect) → Fits t l e m → Invariant t (joined l e m)
  unfolding last_day
  invariant-then m f = record {
    identity = f.fits;
    share = s.share;
    numbers = numbers-then m.part;
    parts = λ n. parts_then m.part n f.least;
    once = once-then m.part;
    past = (used-before t l e m.part s a, past-then t l e m.part s a);
    prices = prices-then m.part;
    days = days-then m.part;
  }

pub invariant-step : (t : Terms) (l : Ledger) (e : Event) → Invariant t l → Invariant t (ledger_step t l e).ledger
unfolding ledger_step
invariant-step t l e s = decide (accepts t l e)
    (λ y. simp y (let a = accepted-by t l e y in invariant-then t l e s a (effect_of t l e) (move-fits t l e s a)))
    (λ n. simp n s)
