-- The calendar's laws: how its dates, days and months are counted. Assumes nothing.
use mathlib.Core.Path.{◌≡◌, refl, sym, ◌∙◌, ap, ap₂}
use mathlib.Core.Bool.{Bool, true, false, cond, ◌&&◌}
use mathlib.Core.Logic.{◌↔◌}
use Prim.Native.Nat.{ℕ, zero, suc, ◌+◌, ◌*◌, ◌-◌, ◌/◌, ◌%◌, ◌≤◌, ◌<◌, zero-le}
use native.Mathlib.Nat.{le_trans, add-zero}
use native.Mathlib.Omega.{arith}
use lib.ListN.{get_or-eq_default}
use lib.Dec.{leb, ltb, eqb}
use Rattle.std.specs.Prelude.{Some, None}
use borrow.Author.Tests.{ltb-true, ltb-false, leb-true, leb-false, eqb-true, eqb-false, le-leb}
use Rattle.std.proofs.lemmas.Bool.{and_parts}
use Rattle.calendar.specs.Calendar.{date, leap_year, month_days, month_length, date_exists, next_of, date_on, total, length_after}
use Rattle.calendar.specs.Calendar.{months_after, days_after, weekday_after, weekday_of, month_from, is_date_until, opens, is_in_reach, is_day, date_answer, weekday_answer, weekday_on}
use Rattle.calendar.specs.declared.Date.{Date}
use Rattle.calendar.proofs.Sums.{decide, leb-and, every, every-at, total_mono, Within, within-mono, within-unique}

-- ---- the lengths of the months

-- a month has 28 to 31 days
record Length (n : ℕ) : Type 0 where
  least : 28 ≤ n
  most : n ≤ 31

abbrev is-length : Bool → ℕ → Bool
is-length leap j = leb 28 (month_days leap (j + 1)) && leb (month_days leap (j + 1)) 31

lengths : (leap : Bool) → every (is-length leap) 12 ≡ true
lengths true = refl
lengths false = refl

length_at : (leap : Bool) (j : ℕ) → j < 12 → Length (month_days leap (j + 1))
length_at leap j h =
    let e = leb-and 28 (month_days leap (j + 1)) _ (every-at (is-length leap) 12 (lengths leap) j h) in
    record { least = e.0; most = leb-true _ 31 e.1 }

month-length : (y m : ℕ) → 1 ≤ m → m ≤ 12 → Length (month_length y m)
unfolding month_length
month-length y m h h' = let e : (m - 1) + 1 ≡ m = omega arith in rw e at (length_at (leap_year y) (m - 1) (omega arith))

length-after : (i : ℕ) → Length (length_after i)
unfolding length_after
length-after i = month-length (2000 + i / 12) (i % 12 + 1) (omega arith) (omega arith)

pub sum_limit : (i : ℕ) → total length_after i ≤ 31 * i
unfolding total
sum_limit zero = omega arith
sum_limit (suc i) = omega (arith, sum_limit i, length-after i)

-- there are no months after 12, and none before 1
pub no-days : (leap : Bool) (m : ℕ) → 12 < m → month_days leap m ≡ 0
no-days leap m h = rw get_or-eq_default

has-days : (leap : Bool) (m : ℕ) → 1 ≤ month_days leap m → (1 ≤ m) × (m ≤ 12)
has-days leap zero h = omega arith
has-days leap (suc m) h =
    (omega arith, decide (leb (suc m) 12) (leb-true (suc m) 12) (λ t. omega (arith, no-days leap (suc m) (leb-false (suc m) 12 t))))

-- ---- dates from 2000 on

pub record Real (d : Date) : Type 0 where
  pub since : 2000 ≤ d.year
  pub month-low : 1 ≤ d.month
  pub month-high : d.month ≤ 12
  pub day-low : 1 ≤ d.day
  pub day-high : d.day ≤ month_length d.year d.month

pub real : (d : Date) → 2000 ≤ d.year → date_exists d.year d.month d.day ≡ true → Real d
unfolding date_exists month_length
real d h e =
    let low = leb-and 1 d.day _ e in
    let high : d.day ≤ month_length d.year d.month = leb-true _ _ low.1 in
    let m = has-days (leap_year d.year) d.month (le_trans low.0 high) in
    record { since = h; month-low = m.0; month-high = m.1; day-low = low.0; day-high = high }

-- such a date in the year y or before
pub record RealTo (y : ℕ) (d : Date) : Type 0 where
  pub real : Real d
  pub until : d.year ≤ y

real-to : (y : ℕ) (d : Date) → is_date_until y d ≡ true → RealTo y d
unfolding is_date_until
real-to y d e =
    let low = leb-and 2000 d.year _ e in
    let high = leb-and d.year y _ low.1 in
    record { real = real d low.0 high.1; until = high.0 }

pub opens-real : (d : Date) → opens d ≡ true → RealTo 2099 d
unfolding opens
opens-real d e = real-to 2099 d e

pub reached-real : (d : Date) → is_in_reach d ≡ true → RealTo 2101 d
unfolding is_in_reach
reached-real d e = real-to 2101 d e

-- and back
pub real-reached : (d : Date) → Real d → d.year ≤ 2101 → is_in_reach d ≡ true
unfolding is_in_reach is_date_until date_exists
real-reached d r h = simp (le-leb 2000 d.year r.since, le-leb d.year 2101 h, le-leb 1 d.day r.day-low, le-leb d.day (month_length d.year d.month) r.day-high)

-- what the code's reach tells
pub record Reached (d : Date) : Type 0 where
  pub since : 2000 ≤ d.year
  pub until : d.year ≤ 2101
  pub month-low : 1 ≤ d.month
  pub month-high : d.month ≤ 12
  pub day-low : 1 ≤ d.day

pub reached : (d : Date) → is_in_reach d ≡ true → Reached d
reached d e = let r = reached-real d e in
    record { since = r.real.since; until = r.until; month-low = r.real.month-low; month-high = r.real.month-high; day-low = r.real.day-low }

pub opens_reached : (d : Date) → opens d ≡ true → is_in_reach d ≡ true
opens_reached d e = let r = opens-real d e in real-reached d r.real (omega arith)

-- ---- days after 2000-01-01

-- the length of a date's month
index-length : (d : Date) → Real d → length_after (months_after d) ≡ month_length d.year d.month
unfolding length_after
index-length d r = ap₂ month_length (omega arith) (omega arith)

-- e is the day after d
pub record Next (d e : Date) : Type 0 where
  pub real : Real e
  pub later : days_after e ≡ suc (days_after d)

-- within a month
same-month : (d : Date) → Real d → d.day < month_length d.year d.month → Next d (date d.year d.month (d.day + 1))
unfolding days_after
same-month d r h = record {
  real = record { since = r.since; month-low = r.month-low; month-high = r.month-high; day-low = omega arith; day-high = omega arith };
  later = omega arith;
}

-- from the last day of a month to the first of the next
new-month : (d : Date) (y m : ℕ) → Real d → month_length d.year d.month ≤ d.day → 2000 ≤ y → 1 ≤ m → m ≤ 12 → months_after (date y m 1) ≡ suc (months_after d) → Next d (date y m 1)
unfolding days_after total
new-month d y m r h hy hm hm' e = record {
  real = record { since = hy; month-low = hm; month-high = hm'; day-low = omega arith; day-high = omega (arith, month-length y m hm hm') };
  later = rw e (omega (arith, index-length d r));
}

-- the day after a date is one day later
pub next-real : (d : Date) → Real d → Next d (next_of d)
unfolding next_of
next-real d r = decide (ltb d.day (month_length d.year d.month))
    (λ t. rw t (same-month d r (ltb-true _ _ t)))
    (λ t. rw t (decide (ltb d.month 12)
    (λ u. let l = ltb-true d.month 12 u in rw u (new-month d d.year (d.month + 1) r (ltb-false _ _ t) (omega arith) (omega arith) (omega arith) (omega arith)))
    (λ u. let l = ltb-false d.month 12 u in rw u (new-month d (d.year + 1) 1 r (ltb-false _ _ t) (omega arith) (omega arith) (omega arith) (omega arith)))))

-- day k is a date, and is k days after the opening date
pub record Day (o : Date) (k : ℕ) : Type 0 where
  pub real : Real (date_on o k)
  pub later : days_after (date_on o k) ≡ days_after o + k

pub day-real : (o : Date) → Real o → (k : ℕ) → Day o k
unfolding date_on
day-real o r zero = record { real = r; later = omega arith }
day-real o r (suc k) =
    let d = day-real o r k in
    let n = next-real (date_on o k) d.real in
    record { real = n.real; later = n.later ∙ omega arith }

-- a date lies in its month
pub month-holds : (d : Date) → Real d → Within length_after (months_after d) (days_after d)
unfolding days_after total
month-holds d r = omega (arith, index-length d r)

pub days_limit : (d : Date) → is_in_reach d ≡ true → days_after d < 37944
days_limit d e =
    let r = reached-real d e in
    omega (arith, month-holds d r.real, sum_limit (suc (months_after d)))

-- dates with the same number of days after 2000-01-01 are the same
pub same-day : (a b : Date) → Real a → Real b → days_after a ≡ days_after b → a ≡ b
unfolding days_after
same-day a b ra rb e =
    let i = within-unique length_after (months_after a) (months_after b) (days_after a) (month-holds a ra) (rw e (month-holds b rb)) in
    let y : a.year ≡ b.year = omega arith in
    let m : a.month ≡ b.month = omega arith in
    let d : a.day ≡ b.day = omega (arith, ap (total length_after) i) in
    λ j. record { year = y j; month = m j; day = d j }

-- ---- weekdays

pub weekday-after : (n : ℕ) → weekday_after n ≡ (n + 5) % 7
unfolding weekday_after
weekday-after zero = refl
weekday-after (suc n) = let w = weekday-after n in decide (eqb (weekday_after n) 6)
    (λ t. rw t (omega (arith, eqb-true (weekday_after n) 6 t)))
    (λ t. rw t (omega (arith, eqb-false (weekday_after n) 6 t)))

-- the weekday of a day from that of the day before
pub weekday-next : (o : Date) → opens o ≡ true → (k : ℕ) → weekday_of (date_on o (suc k)) ≡ cond (eqb (weekday_of (date_on o k)) 6) 0 (weekday_of (date_on o k) + 1)
unfolding weekday_of weekday_after date_on
weekday-next o h k = rw (next-real (date_on o k) (day-real o (opens-real o h).real k).real).later

-- ---- months

-- the month of a date counted from that of an earlier one
month-from : (o d : Date) → Real o → Real d → month_from o d ≡ months_after d - months_after o
unfolding month_from
month-from o d r s = omega arith

-- two months in a row have at least 59 days
abbrev is-pair : Bool → Bool → ℕ → Bool
is-pair l l' j = leb 59 (month_days l (j + 1) + month_days l' ((j + 1) % 12 + 1))

pairs : (l l' : Bool) → every (is-pair l l') 12 ≡ true
pairs true true = refl
pairs true false = refl
pairs false true = refl
pairs false false = refl

pair-after : (i : ℕ) → 59 ≤ length_after i + length_after (suc i)
unfolding length_after month_length
pair-after i =
    let l = leap_year (2000 + i / 12) in
    let l' = leap_year (2000 + suc i / 12) in
    let e : suc i % 12 ≡ (i % 12 + 1) % 12 = omega arith in
    rw e (leb-true 59 _ (every-at (is-pair l l') 12 (pairs l l') (i % 12) (omega arith)))

pairs-after : (i n : ℕ) → total length_after i + 59 * n ≤ total length_after (i + 2 * n)
unfolding total
pairs-after i zero = rw (add-zero i) (omega arith)
pairs-after i (suc n) =
    let e : i + 2 * suc n ≡ suc (suc (i + 2 * n)) = omega arith in
    rw e (omega (arith, pairs-after i n, pair-after (i + 2 * n)))

-- what the test of a day tells
pub record InLimits (o : Date) (k : ℕ) : Type 0 where
  pub open_is : opens o ≡ true
  pub opened : RealTo 2099 o
  pub limit : k ≤ 399

pub day-limits : (o : Date) (k : ℕ) → is_day o k ≡ true → InLimits o k
day-limits o k e = let t = and_parts (opens o) (leb k 399) e in record { open_is = t.0; opened = opens-real o t.0; limit = leb-true k 399 t.1 }

module _ (o : Date) (r : Real o) where
  -- day k lies in its month
  day-month : (k : ℕ) → Within length_after (months_after (date_on o k)) (days_after o + k)
  day-month k = let d = day-real o r k in rw d.later at (month-holds (date_on o k) d.real)

  index-mono : (j k : ℕ) → j ≤ k → months_after (date_on o j) ≤ months_after (date_on o k)
  index-mono j k h = within-mono length_after (months_after (date_on o j)) (months_after (date_on o k)) (days_after o + j) (days_after o + k) (day-month j) (day-month k) (omega arith)

  -- day k's month, counted from January 2000
  pub month-index : (k : ℕ) → months_after (date_on o k) ≡ months_after o + month_from o (date_on o k)
  unfolding date_on
  month-index k = omega (arith, index-mono 0 k zero-le, month-from o (date_on o k) r (day-real o r k).real)

  -- day k is one of month m's days: not before the first of month m, and before that of month m + 1
  pub month-is : (k m : ℕ) → (month_from o (date_on o k) ≡ m) ↔ Within length_after (months_after o + m) (days_after o + k)
  month-is k m =
      let i = month-index k in (
        λ e. rw (i, e) at (day-month k),
        λ p. omega (arith, within-unique length_after (months_after (date_on o k)) (months_after o + m) (days_after o + k) (day-month k) p),
      )

-- an account has months 0 to 14: after the opening month, 14 months have at least 7 * 59 = 413 days
pub month-limit : (o : Date) (k : ℕ) → is_day o k ≡ true → month_from o (date_on o k) ≤ 14
month-limit o k e =
    let d = day-limits o k e in
    let r = d.opened.real in
    let m = month_from o (date_on o k) in
    decide (leb m 14) (leb-true m 14) (λ t. absurd (
    let l = total_mono length_after (suc (months_after o) + 14) (months_after o + m) (omega (arith, leb-false m 14 t)) in
    omega (arith, pairs-after (suc (months_after o)) 7, month-holds o r, (month-is o r k m).0 refl)))

-- the calendar reaches every day of an account
pub day-reached : (o : Date) (k : ℕ) → is_day o k ≡ true → is_in_reach (date_on o k) ≡ true
day-reached o k e =
    let d = day-limits o k e in
    let r = d.opened.real in
    real-reached (date_on o k) (day-real o r k).real (omega (arith, month-limit o k e, month-index o r k))

-- what the answer of `date_of` tells
pub record Answered (o : Date) (k : ℕ) (d : Date) : Type 0 where
  pub is-day : is_day o k ≡ true
  pub date : date_on o k ≡ d

pub answer-on : (o : Date) (k : ℕ) (d : Date) → date_answer o k ≡ Some d → Answered o k d
answer-on o k d e = decide (is_day o k)
    (λ t. let f : Some (date_on o k) ≡ Some d = rw t at e in record { is-day = t; date = cc })
    (λ t. let f : None ≡ Some d = rw t at e in absurd (cc))

pub answer_month : (o d : Date) (k : ℕ) → date_answer o k ≡ Some d → month_from o d ≤ 14
answer_month o d k e = let a = answer-on o k d e in rw a.date at (month-limit o k a.is-day)

pub answer_weekday : (o d : Date) (k : ℕ) → date_answer o k ≡ Some d → weekday_answer d ≡ weekday_on o k
answer_weekday o d k e = let a = answer-on o k d e in simp (a.is-day, sym a.date, day-reached o k a.is-day)

pub ruleset weekdays = weekday-after
