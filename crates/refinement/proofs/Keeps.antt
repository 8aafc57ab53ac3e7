-- What is kept by payment, usage day, day and month after one more entry: unchanged, or with the event's own change.
-- Assumes nothing.
use Prim.Native.Nat.{ℕ, suc, ◌+◌, ◌*◌, ◌-◌, ◌≤◌, ◌<◌}
use native.Mathlib.Omega.{arith}
use mathlib.Core.Path.{◌≡◌, refl, sym, ap, ◌∙◌, subst}
use mathlib.Core.Bool.{Bool, true, false, cond, not, ◌&&◌, ◌||◌, and-false, and-true, or-true, true≢false}
use mathlib.Core.Logic.{inl}
use lib.ListN.{length, get_or, set}
use lib.Seq.{get_or-set_same, get_or-set_other}
use lib.Dec.{ltb, leb, eqb}
use borrow.Author.Tests.{eq-eqb, ne_eqb, eqb-true, eqb-false, ltb-true, ltb-false, lt-ltb, leb-true, leb-false, le-leb, lt-leb}
use Rattle.calendar.specs.Calendar.{month_on}
use Rattle.tariff.specs.Prices.{price_place, with_price}
use Rattle.tariff.proofs.Laws.{taken-longer, taken-first, place-is, Priced, priced-is}
use Rattle.terms.specs.declared.Terms.{Terms}
use Rattle.marks.specs.Marks.{marked}
use Rattle.marks.proofs.Laws.{marked-at, byte_or}
use Rattle.ledger.specs.declared.Event.{Event}
use Rattle.ledger.specs.Event.{is_pay, is_reverse, is_charge, is_estimate, is_read, is_warn, is_mark, is_price, in_limits}
use Rattle.ledger.specs.Entries.{estimate_cost_of, Entry, Entries, last_day, price_on, priced, price_days, any, payment_count, paid_on, paid_amount, paid_part, reversed, UsageDay, usage_day, read_on, estimate_on, covered}
use Rattle.ledger.specs.Months.{charges_in, month_of}
use Rattle.std.proofs.lemmas.Bool.{and_parts}
use Rattle.ledger.specs.Invariant.{All, UsedBefore}
use Rattle.ledger.proofs.Cases.{decide}
use Rattle.ledger.proofs.Prices.{price-same, price-new, priced-same, priced-new, priced-opening, days-same, days-opening, days-new}
use Rattle.account.specs.Record.{blank_day, no_payment}
use Rattle.account.specs.declared.Account.{Account}
use Rattle.moves.specs.declared.Payment.{Payment}
use Rattle.moves.specs.declared.Day.{Day}
use Rattle.moves.proofs.Cost.{cost-limit}
use Rattle.moves.proofs.Early.{pay-limits, charge-limits, usage-limits}
use Rattle.refinement.specs.Agree.{PricesAgree, CellsAgree, recorded_usage, recorded_payment, recorded_marks, warned_on}
use Rattle.refinement.proofs.Fields as F

-- ---- the fields that hold a limit, whatever the sort
module _ (t : Terms) (e : Event) (p : ℕ) (l : Entries) (h : in_limits e ≡ true) where
  pub amounts-keep : ((n : ℕ) → paid_amount l n ≤ 10000000) → (n : ℕ) → paid_amount (F.more e p l) n ≤ 10000000
  amounts-keep k n = F.amount-limit e p l n 10000000 (λ y. (pay-limits e (eqb-true e.sort 1 y) h).most) (k n)

  pub charged-keep : ((m k : ℕ) → charges_in t l m k ≤ length l * 10000000) → (m k : ℕ) → charges_in t (F.more e p l) m k ≤ length (F.more e p l) * 10000000
  charged-keep c m k = rw (F.charges-more e p l t m k) (decide (is_charge e && (eqb e.kind k && eqb (month_of t e.day) m))
      (λ y. simp y (omega (arith, c m k, (charge-limits e (eqb-true e.sort 4 (and_parts (is_charge e) _ y).0) h).amount.most)))
      (λ f. simp f (omega (arith, c m k))))

  -- the cost held of a day that has this event's estimate
  estimate-held : ((u : ℕ) → (1 ≤ price_on t l u) × (price_on t l u ≤ 99999)) → (u : ℕ) → estimate_on u e ≡ true → estimate_cost_of (usage_day t (F.more e p l) u) ≤ 10000000
  estimate-held q u y =
      let i : is_estimate e ≡ true = (and_parts (is_estimate e) (eqb e.usage u) y).0 in
      let s : e.sort ≡ 5 = eqb-true e.sort 5 i in
      let w : e.wh ≤ 9999999 = usage-limits e (inl s) h in
      let r : is_read e ≡ false = rw s refl in
      subst (λ (v : ℕ). estimate_cost_of (usage_day t (F.more e p l) v) ≤ 10000000) (eqb-true e.usage u (and_parts (is_estimate e) (eqb e.usage u) y).1)
      (decide (any (read_on e.usage) l)
      (λ m. rw (F.usage-read-before e p l t r m) (omega arith))
      (λ n. rw (F.usage-estimated e p l t i r n) (omega (arith, cost-limit e.wh (price_on t l e.usage) w (q e.usage).1))))

  pub held-keep : ((u : ℕ) → (1 ≤ price_on t l u) × (price_on t l u ≤ 99999)) → All (UsedBefore e.day) l → ((u : ℕ) → estimate_cost_of (usage_day t l u) ≤ 10000000) → (u : ℕ) → estimate_cost_of (usage_day t (F.more e p l) u) ≤ 10000000
  held-keep q b k u = decide (read_on u e)
      (λ y. let c = and_parts (is_read e) (eqb e.usage u) y in
      subst (λ (v : ℕ). estimate_cost_of (usage_day t (F.more e p l) v) ≤ 10000000) (eqb-true e.usage u c.1) (rw (F.usage-metered e p l t c.0) (omega arith)))
      (λ f. decide (estimate_on u e)
      (λ y. estimate-held q u y)
      (λ g. rw (F.usage-same e p l t u b g f) (k u)))

-- ---- the record's fields that the event leaves
module _ (t : Terms) (a : Account) (e : Event) (p : ℕ) (l : Entries) (k : CellsAgree t a l) where
  pub payments-stay : is_pay e ≡ false → is_reverse e ≡ false → (n : ℕ) → n < payment_count (F.more e p l) → get_or a.payments n no_payment ≡ recorded_payment (F.more e p l) n
  payments-stay f g n h =
      rw (F.payment-same e p l n f, F.reversed-same e p l n (rw g))
      (k.payments n (rw (F.payments-same e p l f) at h))

  pub days-stay : All (UsedBefore e.day) l → is_estimate e ≡ false → is_read e ≡ false → (u : ℕ) → u < 400 → (get_or a.days u blank_day).usage ≡ recorded_usage (usage_day t (F.more e p l) u)
  days-stay b f g u h = rw (F.usage-same e p l t u b (rw f) (rw g)) (k.days u h)

  pub marks_stay : is_mark e ≡ false → (d : ℕ) → d < 400 → get_or a.marks d 0 ≡ recorded_marks (F.more e p l) d
  marks_stay f d h = rw (F.covered_same e p l 1 d f, F.covered_same e p l 2 d f, F.covered_same e p l 3 d f) (k.marks d h)

  pub warned-stay : is_warn e ≡ false → (d : ℕ) → d < 400 → get_or a.warned d 0 ≡ cond (warned_on (F.more e p l) d) 1 0
  warned-stay f d h = rw (F.warned-same e p l d (rw f)) (k.warned d h)

  pub charges-stay : is_charge e ≡ false → (m i : ℕ) → m < 15 → i < 5 → get_or a.charges (5 * m + i) 0 ≡ charges_in t (F.more e p l) m (suc i)
  charges-stay f m i h g = rw (F.charges-more e p l t m (suc i)) (simp f (k.charges m i h g ∙ omega arith))

  -- ---- and those that it changes
  pub warned-set : is_warn e ≡ true → length a.warned ≡ 400 → e.day < 400 → (d : ℕ) → d < 400 → get_or (set a.warned e.day 1) d 0 ≡ cond (warned_on (F.more e p l) d) 1 0
  warned-set y s x d h = decide (eqb e.day d)
      (λ q. subst (λ (v : ℕ). get_or (set a.warned e.day 1) v 0 ≡ cond (warned_on (F.more e p l) v) 1 0) (eqb-true e.day d q)
      (rw (F.warned-new e p l y, get_or-set_same a.warned e.day 1 0 (rw s x))))
      (λ q. rw (F.warned-same e p l d (rw q (and-false (is_warn e))), get_or-set_other a.warned e.day d 1 0 (λ z. eqb-false e.day d q (sym z))) (k.warned d h))

  pub marks-set : is_mark e ≡ true → length a.marks ≡ 400 → 1 ≤ e.kind → e.kind ≤ 3 → e.to ≤ 399 → (d : ℕ) → d < 400
      → get_or (marked a.marks e.kind e.from e.to) d 0 ≡ recorded_marks (F.more e p l) d
  marks-set y s lo hi x d h =
      rw (marked-at a.marks e.kind e.from e.to d s x h, F.covered_more e p l 1 d y, F.covered_more e p l 2 d y, F.covered_more e p l 3 d y)
      (decide (leb e.from d && leb d e.to)
      (λ q. simp (q, k.marks d h, and-true) (byte_or e.kind (covered l 1 d) (covered l 2 d) (covered l 3 d) lo hi))
      (λ q. simp (q, and-false) (k.marks d h)))

  -- the place of a month's charges of a kind is its own
  pub charges-set : is_charge e ≡ true → length a.charges ≡ 75 → month_on t.opened e.day ≡ month_of t e.day → month_of t e.day ≤ 14 → 1 ≤ e.kind → e.kind ≤ 5
      → (m i : ℕ) → m < 15 → i < 5
      → let at = 5 * month_on t.opened e.day + (e.kind - 1) in get_or (set a.charges at (get_or a.charges at 0 + e.amount)) (5 * m + i) 0 ≡ charges_in t (F.more e p l) m (suc i)
  charges-set y s on last lo hi m i h g =
      let at : ℕ = 5 * month_on t.opened e.day + (e.kind - 1) in
      let now : ℕ = get_or a.charges at 0 + e.amount in
      rw (F.charges-more e p l t m (suc i))
      (decide (eqb e.kind (suc i) && eqb (month_of t e.day) m)
      (λ q. let b = and_parts (eqb e.kind (suc i)) (eqb (month_of t e.day) m) q in
      let here : 5 * m + i ≡ at = omega (arith, on, eqb-true e.kind (suc i) b.0, eqb-true (month_of t e.day) m b.1) in
      simp (y, q) (ap (λ (v : ℕ). get_or (set a.charges at now) v 0) here
      ∙ get_or-set_same a.charges at now 0 (omega arith)
      ∙ ap (λ (v : ℕ). get_or a.charges v 0 + e.amount) (sym here)
      ∙ ap (λ (v : ℕ). v + e.amount) (k.charges m i h g)))
      (λ q. simp (y, q) (get_or-set_other a.charges at (5 * m + i) now 0 (λ z. elsewhere q z) ∙ k.charges m i h g ∙ omega arith)))
    where
      elsewhere : (eqb e.kind (suc i) && eqb (month_of t e.day) m) ≡ false → 5 * m + i ≡ 5 * month_on t.opened e.day + (e.kind - 1) → ⊥
      elsewhere q z =
          let kind : e.kind ≡ suc i = omega arith in
          let month : month_of t e.day ≡ m = omega arith in
          let n : ◌≡◌ {A = Bool} true false = sym (rw (eq-eqb e.kind (suc i) kind, eq-eqb (month_of t e.day) m month)) ∙ q in
          absurd (true≢false n)

  -- an estimate's or a read's day
  pub days-set : All (UsedBefore e.day) l → (s : UsageDay) → (length a.days ≡ 400) → e.usage < 400 → usage_day t (F.more e p l) e.usage ≡ s → (u : ℕ) → u < 400
      → (get_or (set a.days e.usage (record { usage = recorded_usage s })) u blank_day).usage ≡ recorded_usage (usage_day t (F.more e p l) u)
  days-set b s n x y u h = decide (eqb e.usage u)
      (λ q. subst (λ (v : ℕ). (get_or (set a.days e.usage (record { usage = recorded_usage s })) v blank_day).usage ≡ recorded_usage (usage_day t (F.more e p l) v)) (eqb-true e.usage u q)
      (ap (λ (d : Day). d.usage) (get_or-set_same a.days e.usage (record { usage = recorded_usage s }) blank_day (rw n x)) ∙ ap recorded_usage (sym y)))
      (λ q. ap (λ (d : Day). d.usage) (get_or-set_other a.days e.usage u (record { usage = recorded_usage s }) blank_day (λ z. eqb-false e.usage u q (sym z)))
      ∙ k.days u h ∙ ap recorded_usage (sym (F.usage-same e p l t u b (rw q (and-false (is_estimate e))) (rw q (and-false (is_read e))))))

  -- the prices by day: as they were, and with one more
  pub prices-stay : is_price e ≡ false → last_day l ≤ e.day → PricesAgree t a.prices (F.more e p l)
  unfolding last_day
  prices-stay f h = record {
    taken = rw (days-same (record { event = e; part = p }) l f) (taken-longer (suc (price_days l)) 0 (last_day l) e.day a.prices k.prices.taken h);
    days = λ d r. k.prices.days d r ∙ rw (priced-same (record { event = e; part = p }) l d f) refl;
    force = λ u r. k.prices.force u r ∙ sym (price-same t (record { event = e; part = p }) l u f);
  }

  -- where the event's day has its cell, if it is a price
  place-law : last_day l ≤ e.day → e.day < 400 → price_place a.prices e.day + cond (eqb e.day 0 || priced l e.day) 1 0 ≡ suc (price_days l)
  place-law h d = rw (k.prices.days e.day d) at (place-is (suc (price_days l)) 0 (last_day l) e.day a.prices k.prices.taken h d)

  -- the cells are full for the event's day where the ledger has no room for it
  pub prices-full : price_days l ≤ 16 → last_day l ≤ e.day → e.day < 400 → leb 17 (price_place a.prices e.day) ≡ (leb 16 (price_days l) && not (priced l e.day))
  prices-full m h d = let q = place-law h d in decide (priced l e.day)
      (λ y. simp (y, and-false) (lt-leb 17 (price_place a.prices e.day) (omega (arith, simp (y, or-true) at q))))
      (λ y. decide (eqb e.day 0)
      (λ z. let o : last_day l ≡ 0 = omega (arith, eqb-true e.day 0 z) in
      let none : price_days l ≡ 0 = taken-first (price_days l) a.prices (rw o at k.prices.taken) in
      simp (y, and-true) (rw none (lt-leb 17 (price_place a.prices e.day) (omega (arith, none, simp (y, z) at q)))))
      (λ z. let place : price_place a.prices e.day ≡ suc (price_days l) = omega (arith, simp (y, z) at q) in
      rw place (simp (y, and-true) (decide (leb 16 (price_days l))
      (λ b. simp (b, le-leb 17 (suc (price_days l)) (omega (arith, leb-true 16 (price_days l) b))))
      (λ b. simp (b, lt-leb 17 (suc (price_days l)) (omega (arith, leb-false 16 (price_days l) b))))))))

  pub prices-set : is_price e ≡ true → last_day l ≤ e.day → e.day < 400 → length a.prices ≡ 17 → price_place a.prices e.day < 17
      → PricesAgree t (with_price a.prices (price_place a.prices e.day) e.day e.amount) (F.more e p l)
  unfolding last_day
  prices-set y h d n r = rw (lt-ltb (price_place a.prices e.day) 17 r) (record {
    taken = rw place (laws.taken);
    days = λ v w. laws.days v w ∙ rw (k.prices.days v w) (decide (ltb 0 e.day)
        (λ z. rw (priced-new x l v y (ltb-true 0 e.day z)) (decide (eqb v 0) (λ i. simp (i, or-true)) (λ i. simp i)))
        (λ z. rw (priced-opening x l v (omega (arith, ltb-false 0 e.day z))) (decide (eqb v 0) (λ i. simp (i, or-true)) (λ i. simp (i, ne_eqb e.day v (λ j. eqb-false v 0 i (omega (arith, ltb-false 0 e.day z))))))));
    force = λ u w. laws.force t.price u w ∙ rw (k.prices.force u w) (sym (price-new t x l u y));
  })
    where
      x : Entry
      x = record { event = e; part = p }

      laws : Priced a.prices (price_place a.prices e.day) 0 e.day e.amount
      laws = priced-is (suc (price_days l)) 0 (last_day l) e.day e.amount a.prices k.prices.taken (omega arith) h d (rw n r)

      place : price_days (F.more e p l) ≡ price_place a.prices e.day
      place = let q = place-law h d in decide (ltb 0 e.day)
          (λ z. let f : eqb e.day 0 ≡ false = ne_eqb e.day 0 (λ i. omega (arith, ltb-true 0 e.day z)) in
          rw (days-new x l y (ltb-true 0 e.day z)) (decide (priced l e.day) (λ i. simp i (omega (arith, simp (f, i) at q))) (λ i. simp i (omega (arith, simp (f, i) at q)))))
          (λ z. let o : e.day ≡ 0 = omega (arith, ltb-false 0 e.day z) in
          rw (days-opening x l o) (omega (arith, simp (eq-eqb e.day 0 o) at q)))

  -- a new payment
  pub payments-set : is_pay e ≡ true → is_reverse e ≡ false → length a.payments ≡ 128 → payment_count l < 128 → reversed l (payment_count l) ≡ false
      → (n : ℕ) → n < payment_count (F.more e p l)
      → get_or (set a.payments (payment_count l) (record { day = e.day; amount = e.amount; part = p; reversed = false })) n no_payment ≡ recorded_payment (F.more e p l) n
  payments-set y f s x r n h = decide (eqb (payment_count l) n)
      (λ q. subst (λ (v : ℕ). get_or (set a.payments (payment_count l) new) v no_payment ≡ recorded_payment (F.more e p l) v) (eqb-true (payment_count l) n q)
      (get_or-set_same a.payments (payment_count l) new no_payment (rw s x) ∙ rw (F.payment-new e p l y, F.reversed-same e p l (payment_count l) (rw f), r)))
      (λ q. let old : payment_count l ≡ n → ⊥ = eqb-false (payment_count l) n q in
      get_or-set_other a.payments (payment_count l) n new no_payment (λ z. old (sym z))
      ∙ rw (F.payment-old e p l n old, F.reversed-same e p l n (rw f)) (k.payments n (omega (arith, h, F.payments-one e p l y))))
    where
      new : Payment
      new = record { day = e.day; amount = e.amount; part = p; reversed = false }

  -- a reversed payment
  pub payments-reverse : is_reverse e ≡ true → is_pay e ≡ false → length a.payments ≡ 128 → payment_count l ≤ 128 → e.number < payment_count l
      → (n : ℕ) → n < payment_count (F.more e p l)
      → get_or (set a.payments e.number (record { day = paid_on l e.number; amount = paid_amount l e.number; part = paid_part l e.number; reversed = true })) n no_payment
      ≡ recorded_payment (F.more e p l) n
  payments-reverse y f s x r n h = decide (eqb e.number n)
      (λ q. subst (λ (v : ℕ). get_or (set a.payments e.number new) v no_payment ≡ recorded_payment (F.more e p l) v) (eqb-true e.number n q)
      (get_or-set_same a.payments e.number new no_payment (omega arith) ∙ rw (F.payment-same e p l e.number f, F.reversed-new e p l y)))
      (λ q. get_or-set_other a.payments e.number n new no_payment (λ z. eqb-false e.number n q (sym z))
      ∙ rw (F.payment-same e p l n f, F.reversed-same e p l n (rw q (and-false (is_reverse e)))) (k.payments n (rw (F.payments-same e p l f) at h)))
    where
      new : Payment
      new = record { day = paid_on l e.number; amount = paid_amount l e.number; part = paid_part l e.number; reversed = true }
