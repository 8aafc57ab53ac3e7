-- What holds of the ledger from its opening on, whatever events it is fed.
use Rattle.std.specs.Prelude.{ℕ, ◌+◌, ◌≤◌, ◌<◌, ◌≡◌, true, ◌||◌, [], ◌∷◌, pos, ◌-ℤ◌}
use Rattle.tariff.specs.Tariff.{max_price_days}
use Rattle.terms.specs.Terms.{max_share, max_price}
use Rattle.terms.specs.declared.Terms.{Terms}
use Rattle.ledger.specs.Event.{is_estimate, is_read}
use Rattle.ledger.specs.Entries.{Entry, Entries, count, last_day, payment_count, paid_amount, paid_part, reversed, estimate_on, price_on, price_days}
use Rattle.ledger.specs.Sums.{kept_total, credit_total, charge_total, read_cost, standing_cost}
use Rattle.ledger.specs.Rules.{Ledger}

-- what holds of every entry
abbrev pub All : (Entry → Type 0) → Entries → Type 0
All P [] = Unit {0}
All P (x ∷ l) = P x × All P l

-- an estimate or a read is of a day before d
abbrev pub UsedBefore : ℕ → Entry → Type 0
UsedBefore d x = (is_estimate x.event || is_read x.event) ≡ true → x.event.usage < d

pub record Invariant (t : Terms) (l : Ledger) : Type 0 where
  -- B, by the sums over L and the unpaid plan
  pub identity : l.balance
      ≡ pos (kept_total l.list + credit_total l.list + l.plan) -ℤ pos (charge_total l.list + read_cost t l.list + standing_cost t l.list)
  -- of the terms
  pub share : t.share ≤ max_share
  -- only a payment that was made is reversed
  pub numbers : (n : ℕ) → reversed l.list n ≡ true → n < payment_count l.list
  -- what of a payment went to the plan is at most its amount
  pub parts : (n : ℕ) → paid_part l.list n ≤ paid_amount l.list n
  -- a usage day is estimated once at most
  pub once : (u : ℕ) → count (estimate_on u) l.list ≤ 1
  -- "u ≥ x" is refused: usage days are before the last day
  pub past : All (UsedBefore (last_day l.list)) l.list
  -- "from 1 to 99,999": every price in force
  pub prices : (u : ℕ) → (1 ≤ price_on t l.list u) × (price_on t l.list u ≤ max_price)
  -- at most "sixteen days after day 0 have a price"
  pub days : price_days l.list ≤ max_price_days
