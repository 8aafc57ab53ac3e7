-- Warnings, marks, plans, disconnects and connects refine the ledger's.
-- Assumes nothing.
use Prim.Native.Nat.{ℕ, suc, ◌+◌, ◌≤◌, ◌<◌}
use native.Mathlib.Omega.{arith}
use native.Mathlib.Nat.{add-zero, mod-eq_of_lt}
use mathlib.Core.Path.{◌≡◌, refl, sym, ap, ◌∙◌}
use mathlib.Core.Bool.{Bool, true, false, cond, not, ◌&&◌, true≢false, or-true}
use mathlib.Core.List.{[], ◌∷◌}
use lib.Dec.{ltb, leb, eqb}
use lib.IntN.{ℤ, pos, neg_ℤ, nat_abs, ◌-ℤ◌}
use lib.Signed.{lt_z, le_z}
use Rattle.tariff.specs.Prices.{price_place}
use borrow.Author.Tests.{leb-true, leb-false, ltb-true, ltb-false, le-leb, eqb-true, ne_eqb, eq-eqb}
use Rattle.calendar.specs.Calendar.{weekday_on}
use Rattle.calendar.proofs.Laws.{weekday-next}
use Rattle.terms.specs.declared.Terms.{Terms}
use Rattle.marks.specs.Marks.{is_missing, barring_on, latest_warning, day_before}
use Rattle.marks.specs.Marks as marks
use Rattle.marks.proofs.Laws.{latest-some, latest-none, near-is, byte-weather, byte-barring}
use Rattle.ledger.specs.declared.Event.{Event}
use Rattle.ledger.specs.Event.{is_warn}
use Rattle.ledger.specs.Entries.{Entries, any, last_day, priced, price_days, warned, weather, weekday, covered, barred, business, weather_recent}
use Rattle.ledger.specs.Rules.{Ledger, may_defer}
use Rattle.ledger.specs.Ledger.{effect_of, service_effect, plan_effect, deferred}
use Rattle.ledger.specs.Invariant.{Invariant}
use Rattle.std.proofs.lemmas.Bool.{and_parts, or_parts}
use Rattle.ledger.proofs.Cases.{decide}
use Rattle.ledger.proofs.Money.{diff, diff-eq, diff-zero, diff-lt, diff-ge, diff-low, diff-gap}
use Rattle.moves.specs.Moves.{Moved, cells_before, tallied, with_service, plan_condition_met, deferral_of, barred_on, warn_of, mark_of, deferring_of, plan_of, served_of, disconnect_of, connect_of, price_of}
use Rattle.moves.proofs.Arms.{branch}
use Rattle.moves.proofs.Early.{mark-limits}
use Rattle.account.specs.Step.{day_at, cells_of}
use Rattle.account.specs.declared.Account.{Account}
use Rattle.refinement.specs.Agree.{Agree, warned_on}
use Rattle.refinement.proofs.Refusals.{Passes, warn-code, mark_code, plan-code, disconnect-code, connect-code, price-code}
use Rattle.refinement.proofs.Keeps.{marks-set, warned-set, prices-full, prices-set}
use Rattle.refinement.proofs.Agreed.{Refines, refused-same, facts}
use Rattle.refinement.proofs.Cells.{Money, accepted}

-- ---- a warning one to seven days old, by its day
one-true : (b : Bool) → ◌≡◌ {A = ℕ} (cond b 1 0) 1 → b ≡ true
one-true true e = refl
one-true false e = absurd (omega arith)

warned-by : (x w : ℕ) (l : Entries) → warned_on l w ≡ true → w < x → x ≤ w + 7 → warned l x ≡ true
unfolding warned_on warned any
warned-by x w [] y lo hi = y
warned-by x w (n ∷ l) y lo hi = decide (is_warn n.event && eqb n.event.day w)
    (λ q. let b = and_parts (is_warn n.event) (eqb n.event.day w) q in
    let d : n.event.day ≡ w = eqb-true n.event.day w b.1 in
    simp (b.0, le-leb (n.event.day + 1) x (omega arith), le-leb x (n.event.day + 7) (omega arith)))
    (λ f. simp (warned-by x w l (simp f at y) lo hi, or-true))

-- the day of such a warning
pub record Day (x : ℕ) (l : Entries) : Type 0 where
  pub day : ℕ
  pub on : warned_on l day ≡ true
  pub before : day < x
  pub after : x ≤ day + 7

warned-day : (x : ℕ) (l : Entries) → warned l x ≡ true → Day x l
unfolding warned_on warned any
warned-day x [] y = absurd (true≢false (sym y))
warned-day x (n ∷ l) y = decide (is_warn n.event && (leb (n.event.day + 1) x && leb x (n.event.day + 7)))
    (λ q. let b = and_parts (is_warn n.event) _ q in
    let c = and_parts (leb (n.event.day + 1) x) (leb x (n.event.day + 7)) b.1 in
    record {
      day = n.event.day;
      on = simp (b.0, eq-eqb n.event.day n.event.day refl);
      before = omega (arith, leb-true (n.event.day + 1) x c.0);
      after = leb-true x (n.event.day + 7) c.1;
    })
    (λ f. let d = warned-day x l (simp f at y) in record { day = d.day; on = simp (d.on, or-true); before = d.before; after = d.after })

module _ (a : Account) (l : Ledger) (e : Event) (g : Agree a.terms a l) (s : Invariant a.terms l) (h : Passes l e) where
  abbrev t : Terms
  t = a.terms

  abbrev c : Moved
  c = cells_of a e

  day : e.day ≤ 399
  day = (facts a l g e h).passed.day

  -- the search finds a warning exactly where the ledger has one
  warning-is : is_missing (latest_warning a.warned e.day) ≡ not (warned l.list e.day)
  warning-is = decide (warned l.list e.day)
      (λ y. let d = warned-day e.day l.list y in
      rw y (latest-some a.warned e.day d.day day (g.kept.warned d.day (omega (arith, d.before, day)) ∙ simp d.on) d.before d.after))
      (λ f. rw f (latest-none a.warned e.day day
      (λ w lo hi y. true≢false (sym (warned-by e.day w l.list (one-true (warned_on l.list w) (sym (g.kept.warned w (omega (arith, lo, day))) ∙ y)) lo hi) ∙ f))))

  -- the event's day has a weekday
  weekday-is : weekday_on t.opened e.day ≡ weekday t e.day
  weekday-is = simp ((facts a l g e h).terms.opened, le-leb e.day 399 day)

  barred-is : barred_on t a.marks e ≡ barred t l.list e.day
  unfolding barred barring_on
  barred-is = rw weekday-is (simp (le-leb e.day 399 day, g.kept.marks e.day (omega (arith, day)), byte-barring (covered l.list 1 e.day) (covered l.list 2 e.day) (covered l.list 3 e.day)))

  -- the weekday before
  weekday-back : (d : ℕ) → day_before (weekday t (suc d)) ≡ weekday t d
  weekday-back d = rw (weekday-next t.opened (facts a l g e h).terms.opened d) (decide (eqb (weekday t d) 6)
      (λ y. simp y (sym (eqb-true (weekday t d) 6 y)))
      (λ f. simp (f, ne_eqb (weekday t d + 1) 0 (λ z. omega arith)) (omega arith)))

  near_same : marks.weather_near a.marks (weekday_on t.opened e.day) e.day ≡ weather_recent t l.list e.day
  unfolding weather_recent business
  near_same = rw weekday-is (near-is a.marks (weather l.list) (business t l.list) (weekday t)
      (λ d k. rw (g.kept.marks d k) (byte-weather (covered l.list 1 d) (covered l.list 2 d) (covered l.list 3 d)))
      (λ d. refl) weekday-back e.day day)

  plan-is : plan_condition_met t a.totals a.marks e ≡ may_defer t l e
  unfolding may_defer
  plan-is = ap (λ (z : Bool). cond (eqb e.kind 1) (leb (a.totals.credit + 5000) a.totals.debit && z) (ltb a.totals.credit a.totals.debit)) near_same
      ∙ sym (ap (λ (b : ℤ). cond (eqb e.kind 1) (le_z b (neg_ℤ (pos 5000)) && weather_recent t l.list e.day) (lt_z b (pos 0))) g.sums.balance
      ∙ ap (λ (z : Bool). cond (eqb e.kind 1) (z && weather_recent t l.list e.day) (lt_z (diff a.totals.credit a.totals.debit) (pos 0))) (diff-low a.totals.credit a.totals.debit 4999)
      ∙ ap (λ (z : Bool). cond (eqb e.kind 1) (leb (a.totals.credit + 5000) a.totals.debit && weather_recent t l.list e.day) z)
      (diff-lt a.totals.credit a.totals.debit 0 ∙ ap (λ (n : ℕ). ltb a.totals.credit n) (add-zero a.totals.debit)))

  -- B and R as they were
  still : (b d : Bool) → b ≡ d → Money a (with_service (tallied a.totals e.day) b) (service_effect l d)
  still b d q = record {
    balance = g.sums.balance;
    plan = g.sums.plan;
    on = q;
    credit-most = omega (arith, g.bounds.credit);
    debit-most = omega (arith, g.bounds.debit);
    plan-most = omega (arith, g.bounds.plan);
  }

  unserved : Money a (tallied a.totals e.day) (service_effect l l.on)
  unserved = still a.totals.on l.on g.sums.on

  pub warns : e.sort ≡ 7 → Refines a l e (warn_of t c e)
  unfolding effect_of warn_of cells_before
  warns k =
      let on-day : day_at e ≡ e.day = mod-eq_of_lt (omega (arith, day)) in
      accepted a l e g s h (warn-code t l e h k) 7 k _ refl (service_effect l l.on) (rw on-day (warned-set t a e 0 l.list g.kept (rw k refl) g.sizes.warned (omega (arith, day)))) (rw k refl) refl refl unserved

  pub marked : e.sort ≡ 8 → Refines a l e (mark_of t c e)
  unfolding effect_of mark_of cells_before
  marked k =
      let limit = mark-limits e k h.limits in
      accepted a l e g s h (mark_code t l e h k) 8 k _ refl (service_effect l l.on) (marks-set t a e 0 l.list g.kept (rw k refl) g.sizes.marks limit.kind.least limit.kind.most limit.to) (rw k refl) refl refl unserved

  -- a plan is for a B below 0
  short : plan_condition_met t a.totals a.marks e ≡ true → a.totals.credit ≤ a.totals.debit
  short y = decide (eqb e.kind 1)
      (λ k. omega (arith, leb-true (a.totals.credit + 5000) a.totals.debit (and_parts (leb (a.totals.credit + 5000) a.totals.debit) _ (simp k at y)).0))
      (λ f. omega (arith, ltb-true a.totals.credit a.totals.debit (simp f at y)))

  deferral-is : a.totals.credit ≤ a.totals.debit → deferral_of t a.totals ≡ deferred t l
  unfolding deferred
  deferral-is y = sym (ap (λ (b : ℤ). nat_abs (pos t.connect -ℤ b)) g.sums.balance ∙ diff-gap a.totals.credit a.totals.debit t.connect y)

  deferring : e.sort ≡ 9 → plan_condition_met t a.totals a.marks e ≡ true → Refines a l e (deferring_of t c e)
  unfolding effect_of deferring_of plan_effect cells_before
  deferring k y =
      let allowed : may_defer t l e ≡ true = sym plan-is ∙ y in
      let low : a.totals.credit ≤ a.totals.debit = short y in
      let q : deferral_of t a.totals ≡ deferred t l = deferral-is low in
      branch (Refines a l e) (ltb 0 a.totals.plan)
      (λ p. refused-same a l g e 10 (plan-code t l e h k ∙ simp (allowed, rw g.sums.plan at p)) refl)
      (λ p. accepted a l e g s h (plan-code t l e h k ∙ simp (allowed, rw g.sums.plan at p)) 9 k _ refl (plan_effect t l) tt (rw k refl) refl q
      (record {
        balance = diff-zero t.connect ∙ diff-eq t.connect 0 (a.totals.credit + deferral_of t a.totals) a.totals.debit (omega arith);
        plan = ap (λ (x : ℕ). x + deferral_of t a.totals) g.sums.plan ∙ ap (λ (x : ℕ). l.plan + x) q;
        on = g.sums.on;
        credit-most = omega (arith, g.bounds.credit, g.bounds.debit, g.bounds.full, (facts a l g e h).terms.connect);
        debit-most = omega (arith, g.bounds.debit);
        plan-most = omega (arith, g.bounds.plan, g.bounds.debit, g.bounds.full, (facts a l g e h).terms.connect);
      }))

  pub plans : e.sort ≡ 9 → Refines a l e (plan_of t c a.marks e)
  unfolding plan_of cells_before
  plans k = branch (Refines a l e) (plan_condition_met t a.totals a.marks e)
      (λ y. deferring k y)
      (λ f. refused-same a l g e 9 (plan-code t l e h k ∙ simp (sym plan-is ∙ f)) refl)

  -- B against a limit of the terms
  cutoff-is : leb (a.totals.debit + t.cutoff) a.totals.credit ≡ le_z (pos t.cutoff) l.balance
  cutoff-is = sym (ap (λ (b : ℤ). le_z (pos t.cutoff) b) g.sums.balance ∙ diff-ge a.totals.credit a.totals.debit t.cutoff)

  connect-is : ltb a.totals.credit (a.totals.debit + t.connect) ≡ lt_z l.balance (pos t.connect)
  connect-is = sym (ap (λ (b : ℤ). lt_z b (pos t.connect)) g.sums.balance ∙ diff-lt a.totals.credit a.totals.debit t.connect)

  pub disconnects : e.sort ≡ 10 → Refines a l e (disconnect_of t c a.marks a.warned e)
  unfolding effect_of disconnect_of served_of cells_before
  disconnects k =
      branch (Refines a l e) (not a.totals.on) (λ o. refused-same a l g e 11 (disconnect-code t l e h k ∙ simp (rw g.sums.on at o)) refl)
      (λ o. let o' : not l.on ≡ false = rw g.sums.on at o in
      branch (Refines a l e) (leb (a.totals.debit + t.cutoff) a.totals.credit) (λ b. refused-same a l g e 12 (disconnect-code t l e h k ∙ simp (o', sym cutoff-is ∙ b)) refl)
      (λ b. let b' = sym cutoff-is ∙ b in
      branch (Refines a l e) (is_missing (latest_warning a.warned e.day)) (λ w. refused-same a l g e 13 (disconnect-code t l e h k ∙ simp (o', b', sym warning-is ∙ w)) refl)
      (λ w. let w' = sym warning-is ∙ w in
      branch (Refines a l e) (barred_on t a.marks e) (λ r. refused-same a l g e 14 (disconnect-code t l e h k ∙ simp (o', b', w', sym barred-is ∙ r)) refl)
      (λ r. accepted a l e g s h (disconnect-code t l e h k ∙ simp (o', b', w', sym barred-is ∙ r)) 10 k _ refl (service_effect l false) tt (rw k refl) refl refl (still false false refl)))))

  pub connects : e.sort ≡ 11 → Refines a l e (connect_of t c e)
  unfolding effect_of connect_of served_of cells_before
  connects k =
      branch (Refines a l e) a.totals.on (λ o. refused-same a l g e 11 (connect-code t l e h k ∙ simp (rw g.sums.on at o)) refl)
      (λ o. let o' : l.on ≡ false = rw g.sums.on at o in
      branch (Refines a l e) (ltb a.totals.credit (a.totals.debit + t.connect)) (λ b. refused-same a l g e 12 (connect-code t l e h k ∙ simp (o', sym connect-is ∙ b)) refl)
      (λ b. accepted a l e g s h (connect-code t l e h k ∙ simp (o', sym connect-is ∙ b)) 11 k _ refl (service_effect l true) tt (rw k refl) refl refl (still true true refl)))

  order : last_day l.list ≤ e.day
  order = ltb-false e.day (last_day l.list) (or_parts (ltb e.day (last_day l.list)) (ltb 399 e.day) h.days).0

  full-is : leb 17 (price_place a.prices e.day) ≡ (leb 16 (price_days l.list) && not (priced l.list e.day))
  full-is = prices-full t a e 0 l.list g.kept s.days order (omega (arith, day))

  pub prices : e.sort ≡ 12 → Refines a l e (price_of t c a.prices e)
  unfolding effect_of price_of cells_before
  prices k =
      branch (Refines a l e) (leb 17 (price_place a.prices e.day))
      (λ y. refused-same a l g e 17 (price-code t l e h k ∙ rw (sym full-is, y) refl) refl)
      (λ f. accepted a l e g s h (price-code t l e h k ∙ rw (sym full-is, f) refl) 12 k _ refl (service_effect l l.on)
      (prices-set t a e 0 l.list g.kept (rw k refl) order (omega (arith, day)) g.sizes.prices (leb-false 17 (price_place a.prices e.day) f))
      (rw k refl) refl refl unserved)
