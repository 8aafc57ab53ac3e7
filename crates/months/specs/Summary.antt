-- The month summary off the account record.
use Rattle.std.specs.Prelude.{ℕ, ◌+◌, ◌*◌, ◌≡◌, ◌≤◌, Bool, true, cond, not, ◌&&◌, List, [], ◌∷◌, get_or, leb, eqb}
use Rattle.calendar.specs.declared.Date.{Date}
use Rattle.calendar.specs.Calendar.{date_on, month_from, is_day, total, day_count}
use Rattle.calendar.specs.Days.{any_day}
use Rattle.terms.specs.declared.Terms.{Terms}
use Rattle.ledger.specs.declared.Event.{Event}
use Rattle.ledger.specs.declared.Counted.{Counted}
use Rattle.ledger.specs.declared.Used.{Used}
use Rattle.ledger.specs.declared.Summary.{Summary}
use Rattle.ledger.specs.Event.{charge_kind_count}
use Rattle.ledger.specs.Entries.{UsageDay, blank, estimated, metered, estimate_cost_of}
use Rattle.ledger.specs.Months.{metered_wh_of, metered_cost_of, estimated_wh_of, average_of, no_summary, ledger_summary}
use Rattle.ledger.specs.Rules.{Ledger}
use Rattle.account.specs.Record.{blank_day, no_payment}
use Rattle.moves.specs.Moves.{is_account}
use Rattle.moves.specs.declared.Usage.{Usage}
use Rattle.moves.specs.declared.Usage.TheVariants.{Blank, Estimated, Metered}
use Rattle.moves.specs.declared.Day.{Day}
use Rattle.moves.specs.declared.Payment.{Payment}
use Rattle.account.specs.Step.{step_of}
use Rattle.account.specs.declared.Account.{Account}
use Rattle.refinement.specs.Lists.{IsLedgers}

-- day d is one of the account's days and lies in month m
unfoldable pub in_month_of : Date → ℕ → ℕ → Bool
in_month_of opened m d = is_day opened d && eqb (month_from opened (date_on opened d)) m

-- ---- payments

abbrev pub payment_kept : Payment → Bool
payment_kept x = not x.reversed

abbrev pub payment_reversed : Payment → Bool
payment_reversed x = x.reversed

-- what f gives of a payment that p picks and whose day has q
abbrev pub of_payment : (ℕ → Bool) → (Payment → Bool) → (Payment → ℕ) → Payment → ℕ
of_payment q p f x = cond (q x.day && p x) (f x) 0

-- its sum over the first n payments
unfoldable pub payments_by : (ℕ → Bool) → (Payment → Bool) → (Payment → ℕ) → List Payment → ℕ → ℕ
payments_by q p f l n = total (λ (i : ℕ). of_payment q p f (get_or l i no_payment)) n

abbrev pub one : Payment → ℕ
one x = 1

abbrev pub payment_amount : Payment → ℕ
payment_amount x = x.amount

abbrev pub counted_by : (ℕ → Bool) → (Payment → Bool) → List Payment → ℕ → Counted
counted_by q p l n = record { count = payments_by q p one l n; sum = payments_by q p payment_amount l n }

-- ---- usage days

-- a usage day's state as the ledger has it
abbrev pub state_of : Usage → UsageDay
state_of Blank = blank
state_of (Estimated wh cost) = estimated wh cost
state_of (Metered wh cost) = metered wh cost

-- the sum of f over those of the first n usage days that have q
unfoldable pub usage_by : (ℕ → Bool) → (UsageDay → ℕ) → List Day → ℕ → ℕ
usage_by q f l n = total (λ (u : ℕ). cond (q u) (f (state_of (get_or l u blank_day).usage)) 0) n

abbrev pub metered_by : (ℕ → Bool) → List Day → ℕ → Used
metered_by q l n = record { wh = usage_by q metered_wh_of l n; cost = usage_by q metered_cost_of l n }

abbrev pub estimated_by : (ℕ → Bool) → List Day → ℕ → Used
estimated_by q l n = record { wh = usage_by q estimated_wh_of l n; cost = usage_by q estimate_cost_of l n }

-- ---- charges: month m's of kinds 1 to 5
abbrev pub charges_of : List ℕ → ℕ → List ℕ
charges_of l m =
    get_or l (charge_kind_count * m) 0
    ∷ get_or l (charge_kind_count * m + 1) 0
    ∷ get_or l (charge_kind_count * m + 2) 0
    ∷ get_or l (charge_kind_count * m + 3) 0
    ∷ get_or l (charge_kind_count * m + 4) 0
    ∷ []

-- No list of charges takes a month's sum past 2 ^ 40: a record that has one is no account of this software's.
abbrev pub max_charge_sum : ℕ
max_charge_sum = 1099511627776

-- that of the k-th kind from 0
abbrev pub is_in_range : List ℕ → ℕ → Bool
is_in_range charges k = leb (get_or charges k 0) max_charge_sum

unfoldable pub are_in_range : List ℕ → Bool
are_in_range charges =
    is_in_range charges 0
    && (is_in_range charges 1 && (is_in_range charges 2 && (is_in_range charges 3 && is_in_range charges 4)))

-- ---- the summary

-- the figures of the payments, the usage and the charges; kinds 1 and 2 are in the average
abbrev pub figures_by : Counted → Counted → Used → Used → List ℕ → Summary
figures_by kept reversed metered_use estimated_use charges =
    cond (are_in_range charges)
    (record {
      code = 0;
      kept = kept;
      reversed = reversed;
      metered = metered_use;
      estimated = estimated_use;
      charges = charges;
      average = average_of (metered_use.cost + estimated_use.cost + get_or charges 0 0 + get_or charges 1 0) (metered_use.wh + estimated_use.wh);
      missing = eqb (metered_use.wh + estimated_use.wh) 0;
    })
    (no_summary 1)

-- over the days that have q, with the charges of month m
unfoldable pub summary_by : (ℕ → Bool) → Account → ℕ → Summary
summary_by q a m =
    cond (any_day q day_count)
    (figures_by
    (counted_by q payment_kept a.payments a.totals.count)
    (counted_by q payment_reversed a.payments a.totals.count)
    (metered_by q a.days day_count)
    (estimated_by q a.days day_count)
    (charges_of a.charges m))
    (no_summary 3)

-- a record that is no account gets 1 for every month, before 3
abbrev pub summary_of : Account → ℕ → Summary
summary_of a m = cond (is_account a.terms a.totals) (summary_by (in_month_of a.terms.opened m) a m) (no_summary 1)

-- the largest number that a field of a payment or a usage day can have, of any record: each is a u32
abbrev pub max_field : ℕ
max_field = 4294967295

-- What no month's figures exceed, whatever the numbers of the account are: 400 usage days, each metered or estimated, and the charges above.
pub record WithinLimits (s : Summary) : Type 0 where
  pub wh : s.metered.wh + s.estimated.wh ≤ day_count * max_field
  pub cost : s.metered.cost + s.estimated.cost ≤ day_count * max_field
  pub charges : are_in_range s.charges ≡ true

-- What `summary` promises: off the record, and in the ledger's terms. The record of which every event gets 1 gets 1 for the month too.
pub record IsSummary (a : Account) (m : ℕ) (r : Summary) : Type 0 where
  pub account : r ≡ summary_of a m
  pub ledgers : IsLedgers a (λ (t : Terms) (l : Ledger). ledger_summary t l.list m) r
  pub none : ((e : Event) → (step_of a e).code ≡ 1) → r ≡ no_summary 1
  pub limits : WithinLimits r
