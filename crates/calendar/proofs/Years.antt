-- The days before a month and before a year, as the code counts them. Assumes nothing.
use mathlib.Core.Path.{◌≡◌, refl, sym, ap, ◌∙◌}
use mathlib.Core.Bool.{Bool, true, false, cond, ◌&&◌}
use mathlib.Core.List.{List, [], ◌∷◌}
use lib.ListN.{get_or}
use mir.Val.{bool_byte}
use Rattle.std.specs.Prelude.{Some}
use Prim.Native.Nat.{ℕ, zero, suc, ◌+◌, ◌*◌, ◌-◌, ◌/◌, ◌%◌, ◌≤◌, ◌<◌}
use native.Mathlib.Nat.{add-zero}
use native.Mathlib.Numerals.{add-one}
use native.Mathlib.Omega.{arith}
use lib.Dec.{leb, ltb, eqb}
use borrow.Author.Tests.{leb-true, eqb-true, le-leb}
use Rattle.calendar.specs.Calendar.{date, leap_year, month_days, month_length, date_exists, total, length_after, days_after, date_on, opens, date_answer}
use Rattle.calendar.specs.Work.{days_before, year_length, InMonth, InYear}
use Rattle.calendar.specs.declared.Date.{Date}
use Rattle.calendar.proofs.Sums.{every, every-at, total_mono}
use Rattle.calendar.proofs.Laws.{Real, real, opens-real, day-real, same-day}

-- ---- the months of a year

-- the days before the months of a common year; a leap year has one more from March on
abbrev pub before : List ℕ
before = 0 ∷ 0 ∷ 31 ∷ 59 ∷ 90 ∷ 120 ∷ 151 ∷ 181 ∷ 212 ∷ 243 ∷ 273 ∷ 304 ∷ 334 ∷ []

abbrev is-before : Bool → ℕ → Bool
is-before leap m = eqb (get_or before m 0 + bool_byte (leap && ltb 2 m)) (days_before leap m)

all-before : (leap : Bool) → every (is-before leap) 13 ≡ true
unfolding days_before total
all-before true = refl
all-before false = refl

pub before_is : (leap : Bool) (m : ℕ) → m ≤ 12 → get_or before m 0 + bool_byte (leap && ltb 2 m) ≡ days_before leap m
before_is leap m h = eqb-true _ _ (every-at (is-before leap) 13 (all-before leap) m (omega arith))

pub february : (y m : ℕ) → m ≡ 2 → month_length y m ≡ cond (leap_year y) 29 28
unfolding month_length
february y m e = rw e

before-next : (leap : Bool) (m : ℕ) → days_before leap (m + 1) ≡ days_before leap m + month_days leap m
unfolding days_before total
before-next leap m = rw (add-one m)

before-mono : (leap : Bool) (i j : ℕ) → i ≤ j → days_before leap i ≤ days_before leap j
unfolding days_before
before-mono leap = total_mono (month_days leap)

-- the months of a year are all of its days
whole-year : (leap : Bool) → days_before leap 13 ≡ cond leap 366 365
unfolding days_before total
whole-year true = refl
whole-year false = refl

year-days : (leap : Bool) → (365 ≤ days_before leap 13) × (days_before leap 13 ≤ 366)
year-days true = rw (whole-year true) (omega arith)
year-days false = rw (whole-year false) (omega arith)

pub year_whole : (y : ℕ) → year_length y ≡ days_before (leap_year y) 13
unfolding year_length
year_whole y = sym (whole-year (leap_year y))

pub year_range : (y : ℕ) → (365 ≤ year_length y) × (year_length y ≤ 366)
year_range y = rw (year_whole y) (year-days (leap_year y))

-- a month of the year n years after 2000
length-in : (n j : ℕ) → j < 12 → length_after (12 * n + j) ≡ month_days (leap_year (2000 + n)) (j + 1)
unfolding length_after month_length
length-in n j h =
    let y : (12 * n + j) / 12 ≡ n = omega arith in
    let m : (12 * n + j) % 12 ≡ j = omega arith in
    rw (y, m)

-- the days before month j + 1 of that year
pub month-sum : (n j : ℕ) → j ≤ 12 → total length_after (12 * n + j) ≡ total length_after (12 * n) + days_before (leap_year (2000 + n)) (j + 1)
unfolding total days_before
month-sum n zero h = rw (add-zero (12 * n)) (omega arith)
month-sum n (suc j) h =
    let e : 12 * n + suc j ≡ suc (12 * n + j) = omega arith in
    let e' : suc j + 1 ≡ suc (j + 1) = omega arith in
    rw (e, e') (omega (arith, month-sum n j (omega arith), length-in n j h))

pub month_total : (i : ℕ) → total length_after (12 * (i / 12)) + days_before (leap_year (2000 + i / 12)) (i % 12 + 1) ≡ total length_after i
month_total i =
    let e : 12 * (i / 12) + i % 12 ≡ i = omega arith in
    sym (rw e at (month-sum (i / 12) (i % 12) (omega arith)))

pub year-sum : (n : ℕ) → total length_after (12 * (n + 1)) ≡ total length_after (12 * n) + year_length (2000 + n)
unfolding year_length
year-sum n =
    let e : 12 * (n + 1) ≡ 12 * n + 12 = omega arith in
    rw e (omega (arith, month-sum n 12 (omega arith), whole-year (leap_year (2000 + n))))

-- ---- years

-- the days of the n years from 2000: each has 365, and every fourth from 2000 on one more, but not 2100
abbrev pub years_to : ℕ → ℕ
years_to n = n * 365 + (n + 3) / 4 - bool_byte (ltb 100 n)

abbrev is-year : ℕ → Bool
is-year n = eqb (years_to (n + 1)) (years_to n + year_length (2000 + n))

years : every is-year 102 ≡ true
unfolding year_length
years = refl

pub years_sum : (n : ℕ) → n ≤ 102 → total length_after (12 * n) ≡ years_to n
unfolding total
years_sum zero h = refl
years_sum (suc n) h = rw (← add-one n) (year-sum n ∙ omega (arith, years_sum n (omega arith), eqb-true (years_to (n + 1)) (years_to n + year_length (2000 + n)) (every-at is-year 102 years n h)))

-- ---- the date of a day of a year

pub in_year : (y left m : ℕ) → InMonth (leap_year y) left m → InYear y left (date y m (left - days_before (leap_year y) m + 1))
unfolding date_exists month_length
in_year y left m h =
    let b = before-next (leap_year y) m in
    record {
      year = refl;
      real = simp (le-leb 1 (left - days_before (leap_year y) m + 1) (omega arith), le-leb (left - days_before (leap_year y) m + 1) (month_days (leap_year y) m) (omega arith));
      month = h.month;
      rest = omega arith;
    }

-- the month of a day of a year is left / 32 + 1 or the one after: month j + 1 begins by day 32 * j, and month j + 2 does not end before day 32 * (j + 1)
abbrev begins : Bool → ℕ → Bool
begins leap j = leb (days_before leap (j + 1)) (32 * j)

all-begin : (leap : Bool) → every (begins leap) 12 ≡ true
unfolding days_before total
all-begin true = refl
all-begin false = refl

abbrev ends : Bool → ℕ → Bool
ends leap j = leb (32 * (j + 1)) (days_before leap (j + 1 + 1 + 1))

all_end : (leap : Bool) → every (ends leap) 11 ≡ true
unfolding days_before total
all_end true = refl
all_end false = refl

pub record Guess (leap : Bool) (left : ℕ) : Type 0 where
  pub month : left / 32 + 1 ≤ 12
  pub begun : days_before leap (left / 32 + 1) ≤ left

pub guess : (leap : Bool) (left : ℕ) → left < days_before leap 13 → Guess leap left
guess leap left h =
    let m : left / 32 < 12 = omega (arith, year-days leap) in
    record { month = omega arith; begun = omega (arith, leb-true (days_before leap (left / 32 + 1)) (32 * (left / 32)) (every-at (begins leap) 12 (all-begin leap) (left / 32) m)) }

pub guess_next : (leap : Bool) (left : ℕ) → left / 32 + 1 < 12 → left < days_before leap (left / 32 + 1 + 1 + 1)
guess_next leap left h =
    omega (arith, leb-true (32 * (left / 32 + 1)) (days_before leap (left / 32 + 1 + 1 + 1)) (every-at (ends leap) 11 (all_end leap) (left / 32) (omega arith)))

-- December is the last month
pub guess_last : (leap : Bool) (left : ℕ) → left < days_before leap 13 → 12 ≤ left / 32 + 1 → left < days_before leap (left / 32 + 1 + 1)
guess_last leap left h l =
    let m : left / 32 + 1 + 1 ≡ 13 = omega (arith, guess leap left h) in
    rw m h

-- ---- a year and the days since its 1 January

-- the days from 2000-01-01 to a day of a year
abbrev pub day_in : ℕ → ℕ → ℕ
day_in y left = total length_after (12 * (y - 2000)) + left

-- one whole year taken out of the days leaves the same day
pub year_taken : (y left : ℕ) → 2000 ≤ y → year_length y ≤ left → day_in (y + 1) (left - year_length y) ≡ day_in y left
year_taken y left h l =
    let e : y + 1 - 2000 ≡ y - 2000 + 1 = omega arith in
    let e' : 2000 + (y - 2000) ≡ y = omega arith in
    let s = rw e' at (year-sum (y - 2000)) in
    rw e (omega arith)

-- a date's days in its year
pub place-of : (d : Date) → Real d → days_after d ≡ day_in d.year (days_before (leap_year d.year) d.month + (d.day - 1))
unfolding days_after
place-of d r =
    let y : 2000 + (d.year - 2000) ≡ d.year = omega arith in
    let m : d.month - 1 + 1 ≡ d.month = omega arith in
    let s = rw (y, m) at (month-sum (d.year - 2000) (d.month - 1) (omega arith)) in
    omega arith

-- those days are fewer than the year's
pub place-below : (d : Date) → Real d → days_before (leap_year d.year) d.month + (d.day - 1) < year_length d.year
unfolding year_length month_length
place-below d r =
    let b = before-next (leap_year d.year) d.month in
    omega (arith, whole-year (leap_year d.year), before-mono (leap_year d.year) (d.month + 1) 13 (omega arith), r.day-high)

-- the date of a day of a year is that day
pub date_is : (o d : Date) (k y left : ℕ) → opens o ≡ true → k ≤ 399 → 2000 ≤ y → day_in y left ≡ days_after o + k → InYear y left d → Some d ≡ date_answer o k
date_is o d k y left t h since e i =
    let b = real d (omega (arith, i.year)) i.real in
    let k-day = day-real o (opens-real o t).real k in
    let p : days_after d ≡ day_in y left = rw (← i.year) (omega (arith, place-of d b, rw (← i.year) at i.rest)) in
    simp (t, le-leb k 399 h) (ap Some (same-day d (date_on o k) b k-day.real (omega arith)))

-- what a date that can open an account tells
pub record Opened (o : Date) : Type 0 where
  pub since : 2000 ≤ o.year
  pub until : o.year ≤ 2099
  pub month-low : 1 ≤ o.month
  pub month-high : o.month ≤ 12
  pub day-low : 1 ≤ o.day
  pub below : days_before (leap_year o.year) o.month + (o.day - 1) < 366
  pub same : day_in o.year (days_before (leap_year o.year) o.month + (o.day - 1)) ≡ days_after o

pub opened : (o : Date) → opens o ≡ true → Opened o
opened o e =
    let r = opens-real o e in
    record {
      since = r.real.since;
      until = r.until;
      month-low = r.real.month-low;
      month-high = r.real.month-high;
      day-low = r.real.day-low;
      below = omega (arith, place-below o r.real, year_range o.year);
      same = sym (place-of o r.real);
    }
