-- The days of a month, as `calendar::days_of` answers them, and the summary over them.
-- Assumes nothing.
use Prim.Native.Nat.{ℕ, ◌≤◌, ◌<◌}
use native.Mathlib.Omega.{arith}
use mathlib.Core.Path.{◌≡◌, sym}
use mathlib.Core.Bool.{true, false, and-false}
use lib.Dec.{ltb, leb, eqb}
use borrow.Author.Tests.{lt-ltb, le-leb, leb-true, ltb-true, eqb-true, eqb-false, ne_eqb}
use Rattle.std.specs.declared.ops.Range.{Range}
use Rattle.calendar.specs.declared.Date.{Date}
use Rattle.calendar.specs.Calendar.{date_on, month_from, is_day, MonthDays}
use Rattle.calendar.specs.Days.{any_day}
use Rattle.calendar.proofs.Laws.{month-limit}
use Rattle.ledger.specs.Months.{no_summary}
use Rattle.ledger.proofs.Cases.{decide}
use Rattle.moves.specs.Moves.{is_account}
use Rattle.account.specs.declared.Account.{Account}
use Rattle.months.specs.Summary.{in_month_of, payment_kept, payment_reversed, counted_by, metered_by, estimated_by, charges_of, figures_by, summary_by, summary_of}
use Rattle.months.specs.Work.{span}
use Rattle.calendar.proofs.Sums.{any_none}
use Rattle.months.proofs.Sums.{any_some}

pub inside : (r : Range ℕ) (k : ℕ) → r.start ≤ k → k < r.end → span r k ≡ true
inside r k h g = simp (le-leb r.start k h, lt-ltb k r.end g)

outside : (r : Range ℕ) (k : ℕ) → (r.start ≤ k → k < r.end → ⊥) → span r k ≡ false
outside r k n = decide (leb r.start k)
    (λ y. decide (ltb k r.end) (λ z. absurd (n (leb-true r.start k y) (ltb-true k r.end z))) (λ f. simp (f, and-false)))
    (λ f. simp f)

pub never : (o : Date) (m : ℕ) → ((k : ℕ) → is_day o k ≡ true → month_from o (date_on o k) ≡ m → ⊥) → (k : ℕ) → in_month_of o m k ≡ false
unfolding in_month_of
never o m n k = decide (is_day o k) (λ d. simp (d, ne_eqb (month_from o (date_on o k)) m (n k d))) (λ f. simp f)

module _ (o : Date) (m : ℕ) (r : Range ℕ) (g : MonthDays o m r) where
  -- where the calendar has the day
  of-day : (k : ℕ) → is_day o k ≡ true → in_month_of o m k ≡ span r k
  unfolding in_month_of
  of-day k d = decide (eqb (month_from o (date_on o k)) m)
      (λ y. let b = (g.days k d).0 (eqb-true (month_from o (date_on o k)) m y) in simp (d, y) (sym (inside r k b.0 b.1)))
      (λ f. simp (d, f) (sym (outside r k (λ a b. eqb-false (month_from o (date_on o k)) m f ((g.days k d).1 (a, b))))))

  day-of : (k : ℕ) → k < r.end → is_day o k ≡ true
  day-of k h = simp (g.open_is, le-leb k 399 (omega (arith, g.limit)))

  in_span : (k : ℕ) → in_month_of o m k ≡ span r k
  unfolding in_month_of
  in_span k = decide (is_day o k)
      (of-day k)
      (λ f. simp f (sym (outside r k (λ a b. cc (day-of k b)))))

  spans : in_month_of o m ≡ span r
  spans = λ i k. in_span k i

  some : any_day (in_month_of o m) 400 ≡ true
  some = rw spans (any_some _ 400 r.start (omega (arith, g.order, g.limit)) (inside r r.start (omega arith) g.order))

  pub month-small : m < 15
  month-small =
      let d = day-of r.start g.order in
      omega (arith, month-limit o r.start d, (g.days r.start d).1 (omega arith, g.order))

pub summary-other : (a : Account) (m : ℕ) → is_account a.terms a.totals ≡ false → no_summary 1 ≡ summary_of a m
summary-other a m f = rw f

module _ (a : Account) (m : ℕ) (i : is_account a.terms a.totals ≡ true) where
  pub summary-none : ((k : ℕ) → is_day a.terms.opened k ≡ true → month_from a.terms.opened (date_on a.terms.opened k) ≡ m → ⊥) → no_summary 3 ≡ summary_of a m
  unfolding summary_by
  summary-none n =
      let e : any_day (in_month_of a.terms.opened m) 400 ≡ false = any_none _ 400 (λ k h. never a.terms.opened m n k) in
      rw (i, e)

  pub summary-some : (r : Range ℕ) → MonthDays a.terms.opened m r
      → figures_by
      (counted_by (span r) payment_kept a.payments a.totals.count)
      (counted_by (span r) payment_reversed a.payments a.totals.count)
      (metered_by (span r) a.days 400)
      (estimated_by (span r) a.days 400)
      (charges_of a.charges m) ≡ summary_of a m
  unfolding summary_by
  summary-some r g = rw (i, some a.terms.opened m r g, spans a.terms.opened m r g)
