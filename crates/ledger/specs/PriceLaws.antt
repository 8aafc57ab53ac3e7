-- What holds of the prices of a ledger, whatever events it is fed (document 02, T-01).
use Rattle.std.specs.Prelude.{ℕ, ◌≤◌, ◌<◌, ◌≡◌, true, false, ◌||◌, List}
use Rattle.tariff.specs.Tariff.{max_price_days}
use Rattle.terms.specs.Terms.{max_price}
use Rattle.terms.specs.declared.Terms.{Terms}
use Rattle.ledger.specs.declared.Event.{Event}
use Rattle.ledger.specs.Event.{is_price, is_estimate, is_read}
use Rattle.ledger.specs.Entries.{Entry, Entries, any, last_day, price_on, price_days, usage_cost}
use Rattle.ledger.specs.Invariant.{All}
use Rattle.ledger.specs.Ledger.{ledger_after, ledger_of}

-- Every estimate and read in l costs with the list k what it cost with l.
abbrev pub CostsStay : Terms → Entries → Entries → Type 0
CostsStay t l k = All (λ (x : Entry). (is_estimate x.event || is_read x.event) ≡ true → usage_cost t k x.event ≡ usage_cost t l x.event) l

pub record PriceLaws (t : Terms) : Type 0 where
  -- while L has no price event, the price in force is the opening price on every day
  pub without : (l : Entries) (u : ℕ) → any is_price l ≡ false → price_on t l u ≡ t.price
  -- after the events es, later events fs change the price of no day before the last accepted event's
  pub stays : (es fs : List Event) (u : ℕ) → u < last_day (ledger_of t es).list
      → price_on t (ledger_after t (ledger_of t es) fs).list u ≡ price_on t (ledger_of t es).list u
  -- and the cost of no estimate and no read in L
  pub costs : (es fs : List Event) → CostsStay t (ledger_of t es).list (ledger_after t (ledger_of t es) fs).list
  -- "from 1 to 99,999": every price in force
  pub limits : (es : List Event) (u : ℕ) → (1 ≤ price_on t (ledger_of t es).list u) × (price_on t (ledger_of t es).list u ≤ max_price)
  -- at most "sixteen days after day 0 have a price"
  pub days : (es : List Event) → price_days (ledger_of t es).list ≤ max_price_days
