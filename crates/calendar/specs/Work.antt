-- What the calendar's private functions answer. No promise to others cites these.
use Rattle.std.specs.Prelude.{ℕ, ◌+◌, ◌-◌, ◌≤◌, ◌<◌, min, ◌≡◌, Bool, true, cond}
use Rattle.calendar.specs.Calendar.{leap_year, month_days, date_exists, total, length_after, months_after, days_after, day_count}
use Rattle.calendar.specs.declared.Date.{Date}

-- the days of the year before month m
unfoldable pub days_before : Bool → ℕ → ℕ
days_before leap m = total (month_days leap) m

unfoldable pub year_length : ℕ → ℕ
year_length y = cond (leap_year y) 366 365

-- the day that comes `left` days after 1 January lies in month m
pub record InMonth (leap : Bool) (left m : ℕ) : Type 0 where
  pub month : m ≤ 12
  pub begun : days_before leap m ≤ left
  pub next : left < days_before leap (m + 1)

-- r is the date that comes `left` days after 1 January of the year
pub record InYear (y left : ℕ) (r : Date) : Type 0 where
  pub year : r.year ≡ y
  pub real : date_exists r.year r.month r.day ≡ true
  pub month : r.month ≤ 12
  pub rest : days_before (leap_year y) r.month + (r.day - 1) ≡ left

-- the first of days 0 to 399 that lies in month m or later; 400 where there is none
unfoldable pub month_start : Date → ℕ → ℕ
month_start opened m = min day_count (total length_after (months_after opened + m) - days_after opened)
