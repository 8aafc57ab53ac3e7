-- Days that have a property, among the first n.
use Rattle.std.specs.Prelude.{ℕ, zero, suc, ◌+◌, Bool, false, cond, ◌||◌}

-- How many of days 0 to n - 1 have p.
unfoldable pub count_days : (ℕ → Bool) → ℕ → ℕ
count_days p zero = 0
count_days p (suc n) = count_days p n + cond (p n) 1 0

-- Whether one of days 0 to n - 1 has p.
unfoldable pub any_day : (ℕ → Bool) → ℕ → Bool
any_day p zero = false
any_day p (suc n) = p n || any_day p n
