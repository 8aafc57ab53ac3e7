-- One byte of marks a day, and one of warnings.
use Rattle.std.specs.Prelude.{ℕ, zero, suc, ◌+◌, ◌-◌, Bool, true, false, cond, not, ◌&&◌, ◌||◌, List, get_or, set, ltb, leb, eqb, Option, Some, None}
use Rattle.std.specs.Int.Bits.{bit_and, bit_or}
use Rattle.calendar.specs.Calendar.{saturday, sunday, final_day, warning_days}

-- the bit of a mark kind in a day's byte; none for a number that is no kind
abbrev pub mark_bit : ℕ → ℕ
mark_bit kind = cond (eqb kind 1) 1 (cond (eqb kind 2) 2 (cond (eqb kind 3) 4 0))

-- the bytes with the bit set on the n days from `from` on
unfoldable pub mark_range : List ℕ → ℕ → ℕ → ℕ → List ℕ
mark_range marks bit from zero = marks
mark_range marks bit from (suc n) =
    set (mark_range marks bit from n) (from + n) (bit_or (get_or (mark_range marks bit from n) (from + n) 0) bit)

-- the newest of the n days before day d whose byte is 1
unfoldable pub latest_of : List ℕ → ℕ → ℕ → Option ℕ
latest_of warned zero zero = None
latest_of warned (suc d) zero = None
latest_of warned zero (suc n) = None
latest_of warned (suc d) (suc n) = cond (eqb (get_or warned d 0) 1) (Some d) (latest_of warned d n)

abbrev pub is_missing : Option ℕ → Bool
is_missing (Some d) = false
is_missing None = true

-- the weekday before w
abbrev pub day_before : ℕ → ℕ
day_before w = cond (eqb w 0) sunday (w - 1)

-- how many of `left` business days are left once a day of weekday w is counted
abbrev pub business_left : ℕ → ℕ → ℕ
business_left w left = cond (leb saturday w) left (left - 1)

-- whether one of days 0 to d has the weather bit, with at most `left` business days after it up to day d, whose weekday is w
unfoldable pub near_of : List ℕ → ℕ → ℕ → ℕ → Bool
near_of marks w zero left = not (eqb (bit_and (get_or marks 0 0) 1) 0)
near_of marks w (suc d) left =
    not (eqb (bit_and (get_or marks (suc d) 0) 1) 0)
    || (not (ltb w saturday && eqb left 0) && near_of marks (day_before w) d (business_left w left))

-- ---- what the functions of this crate answer, for days 0 to 399

-- "A mark in L covers days `from` to `to`." Setting a mark is an or with its bit.
unfoldable pub marked : List ℕ → ℕ → ℕ → ℕ → List ℕ
marked marks kind from to = cond (leb to final_day) (mark_range marks (mark_bit kind) from (to + 1 - from)) marks

-- barred is a mask test: any of kinds 1, 2 and 3
unfoldable pub barring_on : List ℕ → ℕ → Bool
barring_on marks d = cond (leb d final_day) (not (eqb (bit_and (get_or marks d 0) 7) 0)) false

-- the newest warning of the seven days before day x: "1 ≤ x − w ≤ 7"
unfoldable pub latest_warning : List ℕ → ℕ → Option ℕ
latest_warning warned x = cond (leb x final_day) (latest_of warned x warning_days) None

-- whether some weather day has at most one business day after it up to day x, whose weekday is w
unfoldable pub weather_near : List ℕ → ℕ → ℕ → Bool
weather_near marks w x = cond (leb x final_day) (near_of marks w x 1) false
