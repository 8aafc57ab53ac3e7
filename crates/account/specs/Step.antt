-- The step: the cells that an event may touch, moved, and written back into the record.
use Rattle.std.specs.Prelude.{ℕ, ◌%◌, ◌≡◌, cond, get_or, set, eqb, Result, Ok, Err}
use Rattle.calendar.specs.Calendar.{day_count}
use Rattle.tariff.specs.Prices.{with_price}
use Rattle.terms.specs.Terms.{terms_code}
use Rattle.terms.specs.declared.Terms.{Terms}
use Rattle.ledger.specs.Event.{posted_price}
use Rattle.ledger.specs.Rules.{max_payments}
use Rattle.ledger.specs.declared.Event.{Event}
use Rattle.ledger.specs.declared.Refusal.{Refusal}
use Rattle.ledger.specs.Refusals.{refusal_code, code_of, value_of}
use Rattle.marks.specs.Marks.{marked}
use Rattle.moves.specs.Moves.{Arrays, arrays, Moved, cells_before, move_of, IsMove}
use Rattle.moves.specs.declared.Move.{Move}
use Rattle.account.specs.Record.{blank_day, no_payment, fresh}
use Rattle.account.specs.declared.Account.{Account}

-- The record, and 0, or 1 where the terms are outside their limits: then it is no account.
pub record Opened : Type 0 where
  pub account : Account
  pub code : ℕ

abbrev pub open_of : Terms → Opened
open_of t = record { account = fresh t; code = terms_code t }

-- The answer of `open` as that record: refused terms have their fresh record, which is no account.
abbrev pub opened_of : Terms → Result Account Refusal → Opened
opened_of t (Ok a) = record { account = a; code = 0 }
opened_of t (Err r) = record { account = fresh t; code = refusal_code r }

-- what `open` promises
abbrev pub IsOpened : Terms → Result Account Refusal → Type 0
IsOpened t r = opened_of t r ≡ open_of t

-- the places of the event's payment, its usage day and its day
abbrev pub number_at : Event → ℕ
number_at e = e.number % max_payments

abbrev pub usage_at : Event → ℕ
usage_at e = e.usage % day_count

abbrev pub day_at : Event → ℕ
day_at e = e.day % day_count

-- the arrays of which an event may read any place
abbrev pub arrays_of : Account → Arrays
arrays_of a = arrays a.charges a.marks a.warned a.prices

-- The cells that the event may touch, as they are. A number past the payments, or a day past the account's, is looked at by its remainder;
-- the arrays have 128 payments, 400 days, 75 sums of charges and 17 prices by their types.
abbrev pub cells_of : Account → Event → Moved
cells_of a e = cells_before a.totals (get_or a.payments (number_at e) no_payment) (get_or a.days (usage_at e) blank_day) (arrays_of a) e

-- what `AsAccount::moved` promises of an account: the event's move over those cells, or its refusal
abbrev pub MovesBy : Account → Event → Result Move Refusal → Type 0
MovesBy a e r = IsMove a.terms a.totals (get_or a.payments (number_at e) no_payment) (get_or a.days (usage_at e) blank_day) (arrays_of a) e r

-- the record with the cells written back
abbrev pub with_cells : Account → Event → Moved → Account
with_cells a e m = record {
  terms = a.terms;
  totals = m.totals;
  days = set a.days (usage_at e) m.day;
  marks = marked a.marks m.kind m.from m.to;
  warned = set a.warned (day_at e) m.warned;
  payments = set a.payments m.number m.payment;
  charges = set a.charges m.place m.sum;
  prices = with_price a.prices m.price_place e.day (posted_price e);
}

-- The account after an event, and the answer to it.
pub record Stepped : Type 0 where
  pub account : Account
  pub code : ℕ
  pub value : ℕ

-- Refused, the account is as it was; else the cells are written back.
abbrev pub posted : Account → Event → Moved → Stepped
posted a e m = record { account = cond (eqb m.code 0) (with_cells a e m) a; code = m.code; value = m.value }

unfoldable pub step_of : Account → Event → Stepped
step_of a e = posted a e (move_of a.terms (cells_of a e) (arrays_of a) e)

-- what `post` and `step` leave and answer
abbrev pub stepped_of : Account → Result ℕ Refusal → Stepped
stepped_of a answer = record { account = a; code = code_of answer; value = value_of answer }
