-- The list L of accepted events and what is read off the terms and L (document 01, "The ledger of demand 3"; document 02, T-01).
use Rattle.std.specs.Prelude.{ℕ, suc, ◌+◌, Bool, true, false, cond, not, ◌&&◌, ◌||◌, List, [], ◌∷◌, ltb, leb, eqb}
use Rattle.std.proofs.Math.Option.{Option, none, some}
use Rattle.calendar.specs.Calendar.{date_on, saturday, weekday_of, warning_days}
use Rattle.calendar.specs.Days.{any_day, count_days}
use Rattle.tariff.specs.Tariff.{cost_of}
use Rattle.terms.specs.declared.Terms.{Terms}
use Rattle.ledger.specs.declared.Event.{Event}
use Rattle.ledger.specs.Event.{is_pay, is_reverse, is_estimate, is_read, is_warn, is_mark, is_price, posted_price}

-- "the list L of the events it accepted, each payment with its two parts": of a payment, `part` went to the plan and the rest
-- of its amount to B; of any other event `part` is 0.
pub record Entry : Type 0 where
  pub event : Event
  pub part : ℕ

-- L, the newest entry first.
abbrev pub Entries : Type 0
Entries = List Entry

unfoldable pub any : (Event → Bool) → Entries → Bool
any p [] = false
any p (x ∷ l) = p x.event || any p l

unfoldable pub count : (Event → Bool) → Entries → ℕ
count p [] = 0
count p (x ∷ l) = count p l + cond (p x.event) 1 0

-- The sum of f over the entries, each with those accepted before it.
unfoldable pub sum : (Entry → Entries → ℕ) → Entries → ℕ
sum f [] = 0
sum f (x ∷ l) = sum f l + f x l

-- The sum of f over the entries that p picks.
abbrev pub sum_of : (Entry → Entries → Bool) → (Entry → ℕ) → Entries → ℕ
sum_of p f l = sum (λ (x : Entry) (before : Entries). cond (p x before) (f x) 0) l

abbrev pub amount_of : Entry → ℕ
amount_of x = x.event.amount

-- The newest entry that f picks, each with those accepted before it. In the ledger's L every use picks one at the most.
unfoldable pub find : (Entry → Entries → Bool) → Entries → Option Entry
find f [] = none
find f (x ∷ l) = cond (f x l) (some x) (find f l)

-- f of what is found; 0 where there is nothing. The 0 never counts: a reverse of a payment that is not there is refused by 6, the Wh of a usage
-- day are asked only of an event that L has, and a page asks of payments below their count.
abbrev pub or_zero : (Entry → ℕ) → Option Entry → ℕ
or_zero f none = 0
or_zero f (some x) = f x

-- "the last event's day (0 while L is empty)"
unfoldable pub last_day : Entries → ℕ
last_day [] = 0
last_day (x ∷ l) = x.event.day

-- "the counts of events and payments": the payments; the events are the length of L.
unfoldable pub payment_count : Entries → ℕ
payment_count l = count is_pay l

-- "a payment by its number", "the payment's number, from 0": as many payments came before it.
abbrev pub has_number : ℕ → Entry → Entries → Bool
has_number n x before = is_pay x.event && eqb (payment_count before) n

unfoldable pub payment : Entries → ℕ → Option Entry
payment l n = find (has_number n) l

-- payment n's day, its amount, and what of it went to the plan
abbrev pub paid_on : Entries → ℕ → ℕ
paid_on l n = or_zero (λ (x : Entry). x.event.day) (payment l n)

abbrev pub paid_amount : Entries → ℕ → ℕ
paid_amount l n = or_zero amount_of (payment l n)

abbrev pub paid_part : Entries → ℕ → ℕ
paid_part l n = or_zero (λ (x : Entry). x.part) (payment l n)

-- "reversed if L has a reverse of it"
unfoldable pub reversed : Entries → ℕ → Bool
reversed l n = any (λ (e : Event). is_reverse e && eqb e.number n) l

-- a payment kept, and a payment reversed: its number is the count of those before it
abbrev pub is_kept : Entries → Entry → Entries → Bool
is_kept l x before = is_pay x.event && not (reversed l (payment_count before))

abbrev pub is_reversed : Entries → Entry → Entries → Bool
is_reversed l x before = is_pay x.event && reversed l (payment_count before)

-- "some accepted warning was issued on a day w with 1 ≤ x − w ≤ 7"
unfoldable pub warned : Entries → ℕ → Bool
warned l x = any (λ (e : Event). is_warn e && (leb (e.day + 1) x && leb x (e.day + warning_days))) l

-- The price in force on usage day u: "in force for usage days from its own day on; a second one on the same day replaces the first", so that of
-- the newest whose day is at most u. "The opening price counts as day 0's."
unfoldable pub price_on : Terms → Entries → ℕ → ℕ
price_on t [] u = t.price
price_on t (x ∷ l) u = cond (is_price x.event && leb x.event.day u) (posted_price x.event) (price_on t l u)

-- whether day d is one of the "days after day 0" that "have a price"
unfoldable pub priced : Entries → ℕ → Bool
priced l d = ltb 0 d && any (λ (e : Event). is_price e && eqb e.day d) l

-- a price that is the first of its day, which comes after day 0
abbrev pub first_of_day : Entry → Entries → Bool
first_of_day x before = is_price x.event && (ltb 0 x.event.day && not (priced before x.event.day))

-- how many such days there are: each has one first price
unfoldable pub price_days : Entries → ℕ
price_days l = sum_of first_of_day (λ (x : Entry). 1) l

-- "A usage day's cost is taken at the price in force on that usage day.": of an event's Wh
abbrev pub usage_cost : Terms → Entries → Event → ℕ
usage_cost t l e = cost_of e.wh (price_on t l e.usage)

-- "A usage day is metered if L has a read of it, else estimated if L has an estimate of it, else blank; its cost is that event's."
pub data UsageDay : Type 0 where
  blank : UsageDay
  estimated : ℕ → ℕ → UsageDay
  metered : ℕ → ℕ → UsageDay

abbrev pub read_on : ℕ → Event → Bool
read_on u e = is_read e && eqb e.usage u

abbrev pub estimate_on : ℕ → Event → Bool
estimate_on u e = is_estimate e && eqb e.usage u

-- the Wh of the event on usage day u that p picks
abbrev pub wh_on : Entries → (ℕ → Event → Bool) → ℕ → ℕ
wh_on l p u = or_zero (λ (x : Entry). x.event.wh) (find (λ (x : Entry) (before : Entries). p u x.event) l)

unfoldable pub usage_day : Terms → Entries → ℕ → UsageDay
usage_day t l u =
    cond (any (read_on u) l) (metered (wh_on l read_on u) (cost_of (wh_on l read_on u) (price_on t l u)))
    (cond (any (estimate_on u) l) (estimated (wh_on l estimate_on u) (cost_of (wh_on l estimate_on u) (price_on t l u))) blank)

abbrev pub is_blank : UsageDay → Bool
is_blank blank = true
is_blank (estimated wh cost) = false
is_blank (metered wh cost) = false

abbrev pub is_metered : UsageDay → Bool
is_metered blank = false
is_metered (estimated wh cost) = false
is_metered (metered wh cost) = true

-- the cost of the estimate that stands on the day
abbrev pub estimate_cost_of : UsageDay → ℕ
estimate_cost_of blank = 0
estimate_cost_of (estimated wh cost) = cost
estimate_cost_of (metered wh cost) = 0

-- "A mark in L covers days `from` to `to`."; "each is set once or many times alike"
unfoldable pub covered : Entries → ℕ → ℕ → Bool
covered l kind d = any (λ (e : Event). is_mark e && (eqb e.kind kind && (leb e.from d && leb d e.to))) l

-- "A weather day is one covered by kind 1."
abbrev pub weather : Entries → ℕ → Bool
weather l d = covered l 1 d

-- Monday is 0, Saturday 5, Sunday 6.
abbrev pub weekday : Terms → ℕ → ℕ
weekday t d = weekday_of (date_on t.opened d)

-- "A barred day is a Saturday, a Sunday or a covered day."
unfoldable pub barred : Terms → Entries → ℕ → Bool
barred t l d = leb saturday (weekday t d) || (covered l 1 d || (covered l 2 d || covered l 3 d))

-- "Business days are Monday to Friday."
unfoldable pub business : Terms → Entries → ℕ → Bool
business t l d = ltb (weekday t d) saturday

-- how many business days are among days w+1 to x
abbrev pub business_days : Terms → Entries → ℕ → ℕ → ℕ
business_days t l w x = count_days (λ (d : ℕ). ltb w d && business t l d) (suc x)

-- "some weather day w ≤ x has at most one business day among days w+1 to x"
unfoldable pub weather_recent : Terms → Entries → ℕ → Bool
weather_recent t l x = any_day (λ (w : ℕ). weather l w && leb (business_days t l w x) 1) (suc x)
