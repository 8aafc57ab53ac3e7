-- The Gregorian calendar, from its rules alone (document 01, "Opening terms").
use Rattle.std.specs.Prelude.{ℕ, zero, suc, ◌+◌, ◌*◌, ◌-◌, ◌/◌, ◌%◌, ◌≤◌, ◌<◌, ◌≡◌, Bool, true, cond, not, ◌&&◌, ◌||◌, [], ◌∷◌, ◌↔◌, get_or, ltb, leb, eqb, Option, Some, None}
use Rattle.std.specs.declared.ops.Range.{Range}
use Rattle.calendar.specs.declared.Date.{Date}
use Rattle.calendar.specs.declared.Days.{Days}
use Rattle.calendar.specs.declared.Weekday.{Weekday}
use Rattle.calendar.specs.declared.Weekday.TheVariants.{Monday, Tuesday, Wednesday, Thursday, Friday, Saturday, Sunday}

abbrev pub date : ℕ → ℕ → ℕ → Date
date y m d = record { year = y; month = m; day = d }

-- Every fourth year is a leap year, but of the centuries only every fourth. "2100 is no leap year."
abbrev pub leap_year : ℕ → Bool
leap_year y = eqb (y % 4) 0 && (not (eqb (y % 100) 0) || eqb (y % 400) 0)

-- The days of month m, 1 for January to 12 for December; any other number is no month and has none.
abbrev pub month_days : Bool → ℕ → ℕ
month_days leap m = get_or (0 ∷ 31 ∷ cond leap 29 28 ∷ 31 ∷ 30 ∷ 31 ∷ 30 ∷ 31 ∷ 31 ∷ 30 ∷ 31 ∷ 30 ∷ 31 ∷ []) m 0

unfoldable pub month_length : ℕ → ℕ → ℕ
month_length y m = month_days (leap_year y) m

-- Whether the triple is a date of the calendar.
unfoldable pub date_exists : ℕ → ℕ → ℕ → Bool
date_exists y m d = leb 1 d && leb d (month_length y m)

-- The day after a date.
unfoldable pub next_of : Date → Date
next_of d =
    cond (ltb d.day (month_length d.year d.month))
    (date d.year d.month (d.day + 1))
    (cond (ltb d.month 12) (date d.year (d.month + 1) 1) (date (d.year + 1) 1 1))

-- "Day k is that date plus k days"
unfoldable pub date_on : Date → ℕ → Date
date_on opened zero = opened
date_on opened (suc k) = next_of (date_on opened k)

-- f 0 + f 1 + .. + f (n - 1)
unfoldable pub total : (ℕ → ℕ) → ℕ → ℕ
total f zero = 0
total f (suc n) = total f n + f n

-- "years 2000 to 2099": the years in which an account can open, and the year in which the last account ends
abbrev pub first_year : ℕ
first_year = 2000

abbrev pub last_year : ℕ
last_year = 2099

abbrev pub end_year : ℕ
end_year = last_year + 2

-- The length of the month that comes i months after January 2000.
unfoldable pub length_after : ℕ → ℕ
length_after i = month_length (first_year + i / 12) (i % 12 + 1)

-- How many months after January 2000 the date's month is.
abbrev pub months_after : Date → ℕ
months_after d = 12 * (d.year - first_year) + (d.month - 1)

-- How many days after 2000-01-01 a date of 2000 or later is: the whole months before it, and the days before it in its own month.
unfoldable pub days_after : Date → ℕ
days_after d = total length_after (months_after d) + (d.day - 1)

-- The weekdays: Monday is 0, Saturday 5, Sunday 6; 7 is none.
abbrev pub saturday : ℕ
saturday = 5

abbrev pub sunday : ℕ
sunday = saturday + 1

abbrev pub no_weekday : ℕ
no_weekday = sunday + 1

abbrev pub weekday_number : Weekday → ℕ
weekday_number Monday = 0
weekday_number Tuesday = 1
weekday_number Wednesday = 2
weekday_number Thursday = 3
weekday_number Friday = 4
weekday_number Saturday = saturday
weekday_number Sunday = sunday

abbrev pub weekday_or_none : Option Weekday → ℕ
weekday_or_none (Some w) = weekday_number w
weekday_or_none None = no_weekday

-- The weekday n days after 2000-01-01, which was a Saturday.
unfoldable pub weekday_after : ℕ → ℕ
weekday_after zero = saturday
weekday_after (suc n) = cond (eqb (weekday_after n) sunday) 0 (weekday_after n + 1)

unfoldable pub weekday_of : Date → ℕ
weekday_of d = weekday_after (days_after d)

-- The month of a date counted from that of the opening date: 0 in the opening month.
unfoldable pub month_from : Date → Date → ℕ
month_from opened d = (12 * d.year + d.month) - (12 * opened.year + opened.month)

-- A date of the years 2000 to `last`.
unfoldable pub is_date_until : ℕ → Date → Bool
is_date_until last d = leb first_year d.year && (leb d.year last && date_exists d.year d.month d.day)

-- A date that can open an account: "a Gregorian date, years 2000 to 2099".
unfoldable pub opens : Date → Bool
opens d = is_date_until last_year d

-- The dates that the calendar's code works on: to the end of the year in which the last account ends.
unfoldable pub is_in_reach : Date → Bool
is_in_reach d = is_date_until end_year d

-- ---- what the functions of this crate answer

-- outside those dates: the record as it is, and no weekday
abbrev pub next_answer : Date → Date
next_answer d = cond (is_in_reach d) (next_of d) d

abbrev pub weekday_answer : Date → ℕ
weekday_answer d = cond (is_in_reach d) (weekday_of d) no_weekday

-- "k from 0 to 399"
abbrev pub final_day : ℕ
final_day = 399

abbrev pub day_count : ℕ
day_count = final_day + 1

-- "Month m, 0 to 14": the months that 400 days can touch
abbrev pub month_count : ℕ
month_count = 15

-- "1 ≤ x − w ≤ 7": for so many days after its own a warning serves. It is named here, below the ledger and the marks, which both use it.
abbrev pub warning_days : ℕ
warning_days = 7

-- Whether the date can open an account and k is one of its days.
abbrev pub is_day : Date → ℕ → Bool
is_day opened k = opens opened && leb k final_day

abbrev pub date_answer : Date → ℕ → Option Date
date_answer opened k = cond (is_day opened k) (Some (date_on opened k)) None

-- no weekday where there is no such day
abbrev pub weekday_on : Date → ℕ → ℕ
weekday_on opened k = cond (is_day opened k) (weekday_of (date_on opened k)) no_weekday

-- one past the last month where there is no such day
abbrev pub month_on : Date → ℕ → ℕ
month_on opened k = cond (is_day opened k) (month_from opened (date_on opened k)) month_count

abbrev pub month_answer : Date → ℕ → Option ℕ
month_answer opened k = cond (is_day opened k) (Some (month_from opened (date_on opened k))) None

-- Which of days 0 to 399 a date is.
abbrev pub DayAnswer : Date → Date → Option ℕ → Type 0
DayAnswer opened d (Some k) = (is_day opened k ≡ true) × (date_on opened k ≡ d)
DayAnswer opened d None = (k : ℕ) → is_day opened k ≡ true → date_on opened k ≡ d → ⊥

-- The days of month m among days 0 to 399: from `start` to the day before `end`.
pub record MonthDays (opened : Date) (m : ℕ) (r : Range ℕ) : Type 0 where
  pub order : r.start < r.end
  pub limit : r.end ≤ day_count
  pub days : (k : ℕ) → is_day opened k ≡ true → (month_from opened (date_on opened k) ≡ m) ↔ ((r.start ≤ k) × (k < r.end))
  pub open_is : opens opened ≡ true

abbrev pub range_of : Days → Range ℕ
range_of d = record { start = d.from; end = d.to }

abbrev pub MonthAnswer : Date → ℕ → Option Days → Type 0
MonthAnswer opened m (Some d) = MonthDays opened m (range_of d)
MonthAnswer opened m None = (k : ℕ) → is_day opened k ≡ true → month_from opened (date_on opened k) ≡ m → ⊥
