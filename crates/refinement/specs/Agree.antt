-- When an account record represents a ledger: each of its fields is what the ledger reads off the terms and L.
use Rattle.std.specs.Prelude.{ℕ, suc, ◌+◌, ◌*◌, ◌≤◌, ◌<◌, ◌≡◌, Bool, true, cond, ◌&&◌, ◌||◌, List, length, get_or, eqb, pos, ◌-ℤ◌}
use Rattle.calendar.specs.Calendar.{day_count, month_count}
use Rattle.tariff.specs.declared.DayPrice.{DayPrice}
use Rattle.tariff.specs.Prices.{price_cells, in_force, has_price, Taken}
use Rattle.terms.specs.Terms.{valid_terms}
use Rattle.terms.specs.declared.Terms.{Terms}
use Rattle.ledger.specs.declared.Event.{Event}
use Rattle.ledger.specs.Event.{is_warn, max_amount, charge_kind_count}
use Rattle.ledger.specs.Entries.{estimate_cost_of, Entries, any, last_day, payment_count, paid_on, paid_amount, paid_part, reversed, UsageDay, blank, estimated, metered, usage_day, price_on, priced, price_days, covered}
use Rattle.ledger.specs.Rules.{Ledger, max_events, max_payments}
use Rattle.ledger.specs.Ledger.{opening, ledger_step, ledger_after}
use Rattle.ledger.specs.Calls.{ledger_codes}
use Rattle.ledger.specs.Invariant.{Invariant}
use Rattle.ledger.specs.Sums.{standing_cost}
use Rattle.ledger.specs.Months.{charges_in}
use Rattle.account.specs.Record.{blank_day, no_payment, fresh}
use Rattle.account.specs.Step.{step_of}
use Rattle.moves.specs.Moves.{charge_places}
use Rattle.moves.specs.declared.Usage.{Usage}
use Rattle.moves.specs.declared.Usage.TheVariants.{Blank, Estimated, Metered}
use Rattle.moves.specs.declared.Payment.{Payment}
use Rattle.moves.specs.declared.Totals.{Totals}
use Rattle.account.specs.declared.Account.{Account}
use Rattle.refinement.specs.Lists.{account_after, codes_of}

-- a usage day's state as the record has it
abbrev pub recorded_usage : UsageDay → Usage
recorded_usage blank = Blank
recorded_usage (estimated wh cost) = Estimated wh cost
recorded_usage (metered wh cost) = Metered wh cost

-- payment n as the record has it
abbrev pub recorded_payment : Entries → ℕ → Payment
recorded_payment l n = record {
  day = paid_on l n;
  amount = paid_amount l n;
  part = paid_part l n;
  reversed = reversed l n;
}

-- a day's byte of marks
abbrev pub recorded_marks : Entries → ℕ → ℕ
recorded_marks l d = cond (covered l 1 d) 1 0 + (cond (covered l 2 d) 2 0 + cond (covered l 3 d) 4 0)

-- whether an accepted warning was issued on day d
unfoldable pub warned_on : Entries → ℕ → Bool
warned_on l d = any (λ (e : Event). is_warn e && eqb e.day d) l

-- the totals
pub record TotalsAgree (t : Terms) (s : Totals) (l : Ledger) : Type 0 where
  pub events : s.events ≡ length l.list
  pub last : s.last ≡ last_day l.list
  pub balance : l.balance ≡ pos s.credit -ℤ pos s.debit
  pub plan : s.plan ≡ l.plan
  pub on : s.on ≡ l.on
  pub standing : s.standing ≡ standing_cost t l.list
  pub count : s.count ≡ payment_count l.list

-- What one event adds to the credits or to R is at most this: a plan defers `connect` less B, which is at most the largest `connect`, 7,500, and
-- the debits of 4,096 events of at most 10,000,000 each: 40,960,007,500. Every other event adds 10,000,000 at most.
abbrev pub max_rise : ℕ
max_rise = 50000000000

-- what the totals are at most, by the count of events
pub record Bounds (s : Totals) : Type 0 where
  pub full : s.events ≤ max_events
  pub count : s.count ≤ max_payments
  pub credit : s.credit ≤ s.events * max_rise
  pub debit : s.debit ≤ s.events * max_amount
  pub plan : s.plan ≤ s.events * max_rise
  pub standing : s.standing ≤ s.events * max_amount

-- The prices by day: the first cell is day 0's, and each later day that has a price has one, in order; and what is in force by them.
pub record PricesAgree (t : Terms) (cells : List DayPrice) (l : Entries) : Type 0 where
  pub taken : Taken (suc (price_days l)) 0 (last_day l) cells
  pub days : (d : ℕ) → d < day_count → has_price cells d ≡ (eqb d 0 || priced l d)
  pub force : (u : ℕ) → u < day_count → in_force t.price cells u ≡ price_on t l u

-- what is kept by payment, usage day, day, month with charge kind, and day that has a price
pub record CellsAgree (t : Terms) (a : Account) (l : Entries) : Type 0 where
  pub payments : (n : ℕ) → n < payment_count l → get_or a.payments n no_payment ≡ recorded_payment l n
  pub amounts : (n : ℕ) → paid_amount l n ≤ max_amount
  pub days : (u : ℕ) → u < day_count → (get_or a.days u blank_day).usage ≡ recorded_usage (usage_day t l u)
  pub held : (u : ℕ) → estimate_cost_of (usage_day t l u) ≤ max_amount
  pub marks : (d : ℕ) → d < day_count → get_or a.marks d 0 ≡ recorded_marks l d
  pub warned : (d : ℕ) → d < day_count → get_or a.warned d 0 ≡ cond (warned_on l d) 1 0
  pub charges : (m k : ℕ) → m < month_count → k < charge_kind_count → get_or a.charges (charge_kind_count * m + k) 0 ≡ charges_in t l m (suc k)
  pub charged : (m k : ℕ) → charges_in t l m k ≤ length l * max_amount
  pub prices : PricesAgree t a.prices l

-- the lengths of the arrays
pub record Sizes (a : Account) : Type 0 where
  pub payments : length a.payments ≡ max_payments
  pub days : length a.days ≡ day_count
  pub marks : length a.marks ≡ day_count
  pub warned : length a.warned ≡ day_count
  pub charges : length a.charges ≡ charge_places
  pub prices : length a.prices ≡ price_cells

-- the same terms, within their limits, and each field of the record what the ledger reads off the terms and L
pub record Agree (t : Terms) (a : Account) (l : Ledger) : Type 0 where
  pub terms : a.terms ≡ t
  pub valid : valid_terms t ≡ true
  pub sums : TotalsAgree t a.totals l
  pub bounds : Bounds a.totals
  pub kept : CellsAgree t a l.list
  pub sizes : Sizes a

-- The record represents the ledger: they agree, and the ledger's invariant holds.
pub record Represents (t : Terms) (a : Account) (l : Ledger) : Type 0 where
  pub agree : Agree t a l
  pub invariant : Invariant t l

-- The refinement: a fresh account represents the opening ledger, and from an account that represents a ledger every event gets the
-- ledger's code and value and leaves an account that represents the ledger after it.
pub record Refinement (t : Terms) : Type 0 where
  pub opens : Represents t (fresh t) opening
  pub code : (a : Account) (l : Ledger) (e : Event) → Represents t a l → (step_of a e).code ≡ (ledger_step t l e).answer.code
  pub value : (a : Account) (l : Ledger) (e : Event) → Represents t a l → (step_of a e).value ≡ (ledger_step t l e).answer.value
  pub again : (a : Account) (l : Ledger) (e : Event) → Represents t a l → Represents t (step_of a e).account (ledger_step t l e).ledger
  -- and so over every list of events
  pub codes : (a : Account) (l : Ledger) (es : List Event) → Represents t a l → codes_of a es ≡ ledger_codes t l es
  pub after : (a : Account) (l : Ledger) (es : List Event) → Represents t a l → Represents t (account_after a es) (ledger_after t l es)
