-- An account as numbers alone, in the memory of a caller in C: the account that any numbers are read as, the numbers of an account, and what
-- the calls over them leave and answer.
use Rattle.std.specs.Prelude.{ℕ, ◌≡◌, Bool, cond, List, map, set, eqb}
use Rattle.marks.specs.Marks.{marked}
use Rattle.tariff.specs.Prices.{with_price}
use Rattle.terms.specs.Terms.{terms_code}
use Rattle.terms.specs.declared.Terms.{Terms}
use Rattle.ledger.specs.declared.Answer.{Answer}
use Rattle.ledger.specs.Event.{posted_price}
use Rattle.ledger.specs.declared.Event.{Event}
use Rattle.moves.specs.Moves.{Moved, move_of}
use Rattle.moves.specs.declared.Usage.{Usage}
use Rattle.moves.specs.declared.Usage.TheVariants.{Blank, Estimated, Metered}
use Rattle.moves.specs.declared.Day.{Day}
use Rattle.moves.specs.declared.Payment.{Payment}
use Rattle.moves.specs.declared.Totals.{Totals}
use Rattle.account.specs.Record.{fresh}
use Rattle.account.specs.Step.{usage_at, day_at, arrays_of, cells_of, step_of}
use Rattle.account.specs.declared.Account.{Account}
use Rattle.posting.specs.Posting.{Posts, row_of, row_left, PostsRow}
use Rattle.numbers.specs.declared.DayNumbers.{DayNumbers}
use Rattle.numbers.specs.declared.PaymentNumbers.{PaymentNumbers}
use Rattle.numbers.specs.declared.TotalsNumbers.{TotalsNumbers}
use Rattle.numbers.specs.declared.Numbers.{Numbers}

-- ---- yes and no

-- yes is 1, and no any other number
abbrev pub is_yes : ℕ → Bool
is_yes n = eqb n 1

abbrev pub yes_no : Bool → ℕ
yes_no b = cond b 1 0

-- ---- the account that any numbers are read as

-- a usage day: state 1 is estimated, 2 metered, any other blank
unfoldable pub usage_by_state : DayNumbers → Usage
usage_by_state d = cond (eqb d.state 1) (Estimated d.wh d.cost) (cond (eqb d.state 2) (Metered d.wh d.cost) Blank)

abbrev pub day_in : DayNumbers → Day
day_in d = record { usage = usage_by_state d }

unfoldable pub payment_in : PaymentNumbers → Payment
payment_in p = record { day = p.day; amount = p.amount; part = p.part; reversed = is_yes p.reversed }

unfoldable pub totals_in : TotalsNumbers → Totals
totals_in s = record {
  credit = s.credit;
  debit = s.debit;
  plan = s.plan;
  standing = s.standing;
  count = s.count;
  events = s.events;
  last = s.last;
  on = is_yes s.on;
}

abbrev pub account_in : Numbers → Account
account_in n = record {
  terms = n.terms;
  totals = totals_in n.totals;
  days = map day_in n.days;
  marks = n.marks;
  warned = n.warned;
  payments = map payment_in n.payments;
  charges = n.charges;
  prices = n.prices;
}

-- ---- the numbers of an account

abbrev pub usage_numbers : Usage → DayNumbers
usage_numbers Blank = record { state = 0; wh = 0; cost = 0 }
usage_numbers (Estimated wh cost) = record { state = 1; wh = wh; cost = cost }
usage_numbers (Metered wh cost) = record { state = 2; wh = wh; cost = cost }

abbrev pub day_numbers : Day → DayNumbers
day_numbers d = usage_numbers d.usage

unfoldable pub payment_numbers : Payment → PaymentNumbers
payment_numbers p = record { day = p.day; amount = p.amount; part = p.part; reversed = yes_no p.reversed }

unfoldable pub totals_numbers : Totals → TotalsNumbers
totals_numbers s = record {
  credit = s.credit;
  debit = s.debit;
  plan = s.plan;
  standing = s.standing;
  count = s.count;
  events = s.events;
  last = s.last;
  on = yes_no s.on;
}

unfoldable pub numbers_of : Account → Numbers
numbers_of a = record {
  totals = totals_numbers a.totals;
  charges = a.charges;
  terms = a.terms;
  prices = a.prices;
  days = map day_numbers a.days;
  payments = map payment_numbers a.payments;
  spare = 0;
  marks = a.marks;
  warned = a.warned;
}

-- the numbers of an account are read as it
abbrev pub NumbersComeBack : Type 0
NumbersComeBack = (a : Account) → account_in (numbers_of a) ≡ a

-- ---- the numbers after events

-- the event's move, over the account that the numbers are read as
abbrev pub move_in : Numbers → Event → Moved
move_in n e = move_of n.terms (cells_of (account_in n) e) (arrays_of (account_in n)) e

-- the numbers with a move's cells written, each in its own place
abbrev pub with_move : Numbers → Event → Moved → Numbers
with_move n e m = record {
  totals = totals_numbers m.totals;
  charges = set n.charges m.place m.sum;
  terms = n.terms;
  prices = with_price n.prices m.price_place e.day (posted_price e);
  days = set n.days (usage_at e) (day_numbers m.day);
  payments = set n.payments m.number (payment_numbers m.payment);
  spare = n.spare;
  marks = marked n.marks m.kind m.from m.to;
  warned = set n.warned (day_at e) m.warned;
}

-- refused, they are as they were
unfoldable pub posted_in : Numbers → Event → Numbers
posted_in n e = cond (eqb (move_in n e).code 0) (with_move n e (move_in n e)) n

-- a row, event after event; one longer than its buffer leaves them
abbrev pub row_in : Numbers → List Event → List ℕ → Numbers
row_in = row_left posted_in

-- ---- the calls

-- `Numbers::open`: "terms outside their limits: no account made", and no number changes; else the numbers are those of a fresh account.
pub record OpensIn (t : Terms) (before after : Numbers) (r : ℕ) : Type 0 where
  pub code : r ≡ terms_code t
  pub account : r ≡ 0 → account_in after ≡ fresh t
  pub numbers : r ≡ 0 → after ≡ numbers_of (fresh t)
  pub unchanged : (r ≡ 0 → ⊥) → after ≡ before

-- `Numbers::post`: of any numbers what the record's `post` promises of the account that they are read as, and each number after it. A refusal
-- changes no number; the numbers of an account become those of the account after.
pub record PostsIn (before : Numbers) (e : Event) (after : Numbers) (r : Answer) : Type 0 where
  pub account : Posts (account_in before) e (account_in after) r
  pub lent : after ≡ posted_in before e
  pub unchanged : (r.code ≡ 0 → ⊥) → after ≡ before
  pub numbers : (a : Account) → before ≡ numbers_of a → after ≡ numbers_of (step_of a e).account

-- `Numbers::post_row`: the same of `post_row`.
pub record PostsRowIn (before : Numbers) (es : List Event) (buffer : List ℕ) (after : Numbers) (codes : List ℕ) (r : ℕ) : Type 0 where
  pub account : PostsRow (account_in before) es buffer (account_in after) codes r
  pub lent : after ≡ row_in before es buffer
  pub unchanged : (r ≡ 0 → ⊥) → after ≡ before
  pub numbers : (a : Account) → before ≡ numbers_of a → after ≡ numbers_of (row_of a es buffer).account
