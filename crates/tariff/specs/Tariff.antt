-- The cost of a usage day (document 01, "Events"), and how many days may have a price of their own (document 02, T-01).
use Rattle.std.specs.Prelude.{ℕ, ◌+◌, ◌*◌, ◌/◌}

-- "Cost = (wh × price + 50,000) / 100,000 rounded down": cents, of watt-hours at hundredths of a cent per kWh.
unfoldable pub cost_of : ℕ → ℕ → ℕ
cost_of wh price = (wh * price + 50000) / 100000

-- "sixteen days after day 0 have a price already": so many may. It is named here, below the ledger and the record, which both use it.
abbrev pub max_price_days : ℕ
max_price_days = 16
