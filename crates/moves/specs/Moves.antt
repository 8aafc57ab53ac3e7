-- What one event does to the totals and to the cells that it may change: the step, without the record around it.
use Rattle.std.specs.Prelude.{ℕ, ◌+◌, ◌*◌, ◌-◌, ◌/◌, ◌%◌, ◌<◌, min, ◌≡◌, Bool, true, false, cond, not, ◌&&◌, ◌||◌, List, get_or, ltb, leb, eqb, Option, Some, None, Result, Ok, Err}
use Rattle.calendar.specs.Calendar.{saturday, final_day, day_count, month_count, weekday_on, month_on}
use Rattle.tariff.specs.Tariff.{cost_of}
use Rattle.tariff.specs.Prices.{price_cells, in_force, price_place}
use Rattle.tariff.specs.declared.DayPrice.{DayPrice}
use Rattle.marks.specs.Marks.{barring_on, latest_warning, weather_near, is_missing}
use Rattle.terms.specs.Terms.{terms_code, max_price}
use Rattle.terms.specs.declared.Terms.{Terms}
use Rattle.ledger.specs.Event.{in_limits, charge_kind_count}
use Rattle.ledger.specs.Rules.{max_events, max_payments, required_debt}
use Rattle.ledger.specs.declared.Event.{Event}
use Rattle.ledger.specs.declared.Refusal.{Refusal}
use Rattle.ledger.specs.Refusals.{refusal_code}
use Rattle.moves.specs.declared.Usage.{Usage}
use Rattle.moves.specs.declared.Usage.TheVariants.{Blank, Estimated, Metered}
use Rattle.moves.specs.declared.Day.{Day}
use Rattle.moves.specs.declared.Payment.{Payment}
use Rattle.moves.specs.declared.Totals.{Totals}
use Rattle.moves.specs.declared.mark.Mark.{Mark}
use Rattle.moves.specs.declared.Move.{Move}
use Rattle.moves.specs.declared.Cells.{Cells}

-- No list of events takes a total past 2 ^ 60, or the payments past their limit: a record where one is past it is no account of this
-- software's, nor is one whose terms are outside their limits.
abbrev pub max_total : ℕ
max_total = 1152921504606846976

abbrev pub is_in_range : Totals → Bool
is_in_range s = leb s.credit max_total && (leb s.debit max_total && (leb s.plan max_total && leb s.standing max_total))

unfoldable pub is_account : Terms → Totals → Bool
is_account t s = eqb (terms_code t) 0 && (is_in_range s && leb s.count max_payments)

-- 1 where the record is no account, then 2, 3 or 4; else 0
unfoldable pub early_code : Terms → Totals → Event → ℕ
early_code t s e =
    cond (is_account t s)
    (cond (ltb e.day s.last || ltb final_day e.day) 2 (cond (in_limits e) (cond (leb max_events s.events) 4 0) 3))
    1

-- ---- the totals after an event: what changes, and what stays

abbrev pub totals : ℕ → ℕ → ℕ → ℕ → ℕ → ℕ → ℕ → Bool → Totals
totals credit debit plan standing count events last on = record {
  credit = credit;
  debit = debit;
  plan = plan;
  standing = standing;
  count = count;
  events = events;
  last = last;
  on = on;
}

-- the totals with one more event, of day x
abbrev pub tallied : Totals → ℕ → Totals
tallied s x = totals s.credit s.debit s.plan s.standing s.count (s.events + 1) x s.on

abbrev pub credited : Totals → ℕ → Totals
credited s n = totals (s.credit + n) s.debit s.plan s.standing s.count s.events s.last s.on

abbrev pub debited : Totals → ℕ → Totals
debited s n = totals s.credit (s.debit + n) s.plan s.standing s.count s.events s.last s.on

abbrev pub with_plan : Totals → ℕ → Totals
with_plan s r = totals s.credit s.debit r s.standing s.count s.events s.last s.on

abbrev pub with_standing : Totals → ℕ → Totals
with_standing s n = totals s.credit s.debit s.plan n s.count s.events s.last s.on

abbrev pub with_count : Totals → ℕ → Totals
with_count s n = totals s.credit s.debit s.plan s.standing n s.events s.last s.on

abbrev pub with_service : Totals → Bool → Totals
with_service s b = totals s.credit s.debit s.plan s.standing s.count s.events s.last b

-- ---- the cells after an event

-- The arrays of an account, of which an event may read any place: the sums of charges, the marks, the warnings and the prices by day.
pub record Arrays : Type 0 where
  pub charges : List ℕ
  pub marks : List ℕ
  pub warned : List ℕ
  pub prices : List DayPrice

abbrev pub arrays : List ℕ → List ℕ → List ℕ → List DayPrice → Arrays
arrays charges marks warned prices = record { charges = charges; marks = marks; warned = warned; prices = prices }

-- The answer, and the cells: the totals, payment `number`, the event's usage day, the charges summed at `place`, the warning byte of the event's
-- day, the place of the event's price, past the cells where it is none, and the mark set from day `from` to day `to`, none where `to` is before
-- `from`.
pub record Moved : Type 0 where
  pub code : ℕ
  pub value : ℕ
  pub totals : Totals
  pub number : ℕ
  pub payment : Payment
  pub day : Day
  pub place : ℕ
  pub sum : ℕ
  pub warned : ℕ
  pub price_place : ℕ
  pub kind : ℕ
  pub from : ℕ
  pub to : ℕ

abbrev pub move : ℕ → ℕ → Totals → ℕ → Payment → Day → ℕ → ℕ → ℕ → ℕ → ℕ → ℕ → ℕ → Moved
move code value totals number payment day place sum warned price_place kind from to = record {
  code = code;
  value = value;
  totals = totals;
  number = number;
  payment = payment;
  day = day;
  place = place;
  sum = sum;
  warned = warned;
  price_place = price_place;
  kind = kind;
  from = from;
  to = to;
}

-- m with this answer and these totals; below, with another payment, usage day, sum of charges, warning byte, price or mark
abbrev pub answering : Moved → ℕ → ℕ → Totals → Moved
answering m code value s = move code value s m.number m.payment m.day m.place m.sum m.warned m.price_place m.kind m.from m.to

abbrev pub paying : Moved → ℕ → Payment → Moved
paying m number p = move m.code m.value m.totals number p m.day m.place m.sum m.warned m.price_place m.kind m.from m.to

abbrev pub on_day : Moved → Usage → Moved
on_day m u = move m.code m.value m.totals m.number m.payment (record { usage = u }) m.place m.sum m.warned m.price_place m.kind m.from m.to

abbrev pub charging : Moved → ℕ → ℕ → Moved
charging m place sum = move m.code m.value m.totals m.number m.payment m.day place sum m.warned m.price_place m.kind m.from m.to

abbrev pub warning : Moved → Moved
warning m = move m.code m.value m.totals m.number m.payment m.day m.place m.sum 1 m.price_place m.kind m.from m.to

abbrev pub pricing : Moved → ℕ → Moved
pricing m place = move m.code m.value m.totals m.number m.payment m.day m.place m.sum m.warned place m.kind m.from m.to

abbrev pub marking : Moved → ℕ → ℕ → ℕ → Moved
marking m kind from to = move m.code m.value m.totals m.number m.payment m.day m.place m.sum m.warned m.price_place kind from to

-- a refusal moves nothing
abbrev pub refusing : Moved → ℕ → Moved
refusing m k = answering m k 0 m.totals

-- accepted with the value: the cells of m, and these totals
abbrev pub accepting : Moved → Totals → ℕ → Moved
accepting m s v = answering m 0 v s

-- ---- the sorts
abbrev pub part_in : Terms → Totals → Event → ℕ
part_in t s e = min s.plan (e.amount * t.share / 100)

unfoldable pub pay_of : Terms → Moved → Event → Moved
pay_of t m e =
    cond (leb max_payments m.totals.count) (refusing m 5)
    (accepting
    (paying m m.totals.count (record { day = e.day; amount = e.amount; part = part_in t m.totals e; reversed = false }))
    (with_count
    (with_plan (credited (tallied m.totals e.day) (e.amount - part_in t m.totals e)) (m.totals.plan - part_in t m.totals e))
    (m.totals.count + 1))
    m.totals.count)

abbrev pub reversing : Payment → Payment
reversing p = record { day = p.day; amount = p.amount; part = p.part; reversed = true }

unfoldable pub reverse_of : Terms → Moved → Event → Moved
reverse_of t m e =
    cond (leb m.totals.count e.number) (refusing m 6)
    (cond m.payment.reversed (refusing m 6)
    (accepting
    (paying m m.number (reversing m.payment))
    (with_plan
    (debited (tallied m.totals e.day) (m.payment.amount - m.payment.part))
    (m.totals.plan + m.payment.part))
    0))

unfoldable pub credit_of : Terms → Moved → Event → Moved
credit_of t m e = accepting m (credited (tallied m.totals e.day) e.amount) 0

-- a place for each month and charge kind
abbrev pub charge_places : ℕ
charge_places = month_count * charge_kind_count

-- where the charges of the event's month and kind are summed
abbrev pub charge_place : Terms → Event → ℕ
charge_place t e = charge_kind_count * month_on t.opened e.day + (e.kind - 1)

unfoldable pub charge_of : Terms → Moved → List ℕ → Event → Moved
charge_of t m charges e =
    cond (ltb max_total (get_or charges (charge_place t e) 0)) (refusing m 1)
    (accepting
    (charging m (charge_place t e) (get_or charges (charge_place t e) 0 + e.amount))
    (debited (tallied m.totals e.day) e.amount)
    0)

-- the price in force on the event's usage day
abbrev pub usage_price : Terms → List DayPrice → Event → ℕ
usage_price t prices e = in_force t.price prices e.usage

abbrev pub wh_cost : Terms → List DayPrice → Event → ℕ
wh_cost t prices e = cost_of e.wh (usage_price t prices e)

unfoldable pub estimated_of : Moved → Event → ℕ → Moved
estimated_of m e cost =
    accepting
    (on_day m (Estimated e.wh cost))
    (with_standing (debited (tallied m.totals e.day) cost) (m.totals.standing + cost))
    cost

unfoldable pub metered_of : Moved → Event → ℕ → ℕ → Moved
metered_of m e cost old =
    accepting
    (on_day m (Metered e.wh cost))
    (with_standing (debited (credited (tallied m.totals e.day) old) cost) (m.totals.standing - old))
    cost

-- by the usage day's state
abbrev pub by_usage : {A : Type 0} → Usage → A → (ℕ → A) → A → A
by_usage Blank b s m = b
by_usage (Estimated wh cost) b s m = s cost
by_usage (Metered wh cost) b s m = m

-- 1: a price that no account has
unfoldable pub estimate_of : Terms → Moved → List DayPrice → Event → Moved
estimate_of t m prices e =
    cond (leb e.day e.usage) (refusing m 7)
    (cond (ltb max_price (usage_price t prices e)) (refusing m 1)
    (by_usage m.day.usage (estimated_of m e (wh_cost t prices e)) (λ (old : ℕ). refusing m 8) (refusing m 8)))

unfoldable pub read_of : Terms → Moved → List DayPrice → Event → Moved
read_of t m prices e =
    cond (leb e.day e.usage) (refusing m 7)
    (cond (ltb max_price (usage_price t prices e)) (refusing m 1)
    (by_usage m.day.usage
    (metered_of m e (wh_cost t prices e) 0)
    (λ (old : ℕ). metered_of m e (wh_cost t prices e) old)
    (refusing m 8)))

unfoldable pub warn_of : Terms → Moved → Event → Moved
warn_of t m e = accepting (warning m) (tallied m.totals e.day) 0

unfoldable pub mark_of : Terms → Moved → Event → Moved
mark_of t m e = accepting (marking m e.kind e.from e.to) (tallied m.totals e.day) 0

abbrev pub deferral_of : Terms → Totals → ℕ
deferral_of t s = t.connect + s.debit - s.credit

unfoldable pub deferring_of : Terms → Moved → Event → Moved
deferring_of t m e =
    cond (ltb 0 m.totals.plan) (refusing m 10)
    (accepting m
    (with_plan (credited (tallied m.totals e.day) (deferral_of t m.totals)) (m.totals.plan + deferral_of t m.totals))
    (deferral_of t m.totals))

abbrev pub plan_condition_met : Terms → Totals → List ℕ → Event → Bool
plan_condition_met t s marks e =
    cond (eqb e.kind 1)
    (leb (s.credit + required_debt) s.debit
    && weather_near marks (weekday_on t.opened e.day) e.day)
    (ltb s.credit s.debit)

unfoldable pub plan_of : Terms → Moved → List ℕ → Event → Moved
plan_of t m marks e = cond (plan_condition_met t m.totals marks e) (deferring_of t m e) (refusing m 9)

unfoldable pub served_of : Terms → Moved → Event → Bool → Moved
served_of t m e b = accepting m (with_service (tallied m.totals e.day) b) 0

abbrev pub barred_on : Terms → List ℕ → Event → Bool
barred_on t marks e = leb saturday (weekday_on t.opened e.day) || barring_on marks e.day

unfoldable pub disconnect_of : Terms → Moved → List ℕ → List ℕ → Event → Moved
disconnect_of t m marks warned e =
    cond (not m.totals.on) (refusing m 11)
    (cond (leb (m.totals.debit + t.cutoff) m.totals.credit) (refusing m 12)
    (cond (is_missing (latest_warning warned e.day)) (refusing m 13)
    (cond (barred_on t marks e) (refusing m 14) (served_of t m e false))))

unfoldable pub connect_of : Terms → Moved → Event → Moved
connect_of t m e =
    cond m.totals.on (refusing m 11)
    (cond (ltb m.totals.credit (m.totals.debit + t.connect)) (refusing m 12) (served_of t m e true))

-- 17: no cell is left for the day's price
unfoldable pub price_of : Terms → Moved → List DayPrice → Event → Moved
price_of t m prices e =
    cond (leb price_cells (price_place prices e.day)) (refusing m 17)
    (accepting (pricing m (price_place prices e.day)) (tallied m.totals e.day) 0)

-- the move of sort k
unfoldable pub by_sort : Terms → Moved → Arrays → Event → ℕ → Moved
by_sort t m r e k =
    cond (eqb k 1) (pay_of t m e)
    (cond (eqb k 2) (reverse_of t m e)
    (cond (eqb k 3) (credit_of t m e)
    (cond (eqb k 4) (charge_of t m r.charges e)
    (cond (eqb k 5) (estimate_of t m r.prices e)
    (cond (eqb k 6) (read_of t m r.prices e)
    (cond (eqb k 7) (warn_of t m e)
    (cond (eqb k 8) (mark_of t m e)
    (cond (eqb k 9) (plan_of t m r.marks e)
    (cond (eqb k 10) (disconnect_of t m r.marks r.warned e)
    (cond (eqb k 11) (connect_of t m e)
    (cond (eqb k 12) (price_of t m r.prices e) (refusing m 3))))))))))))

-- The refusals that every sort has come first, then the sort's own.
unfoldable pub move_of : Terms → Moved → Arrays → Event → Moved
move_of t m r e = cond (eqb (early_code t m.totals e) 0) (by_sort t m r e e.sort) (refusing m (early_code t m.totals e))

-- Before an event: no answer yet, and the cells that it may change as they are. A number past the payments, or a day past the account's, is
-- looked at by its remainder: where the sort names the field the event is refused, else the cell is written back as it was.
unfoldable pub cells_before : Totals → Payment → Day → Arrays → Event → Moved
cells_before s payment day r e =
    move 0 0 s (e.number % max_payments) payment day 0 (get_or r.charges 0 0) (get_or r.warned (e.day % day_count) 0)
    price_cells 0 1 0

-- ---- the code's moves

-- the arrays as the code has them
abbrev pub arrays_in : Cells → Arrays
arrays_in c = arrays c.charges.now c.marks.now c.warned.now c.prices.now

-- the mark of a move of the code; without one from day 1 to day 0
abbrev pub mark_kind : Option Mark → ℕ
mark_kind (Some mark) = mark.kind
mark_kind None = 0

abbrev pub mark_from : Option Mark → ℕ
mark_from (Some mark) = mark.from
mark_from None = 1

abbrev pub mark_to : Option Mark → ℕ
mark_to (Some mark) = mark.to
mark_to None = 0

-- a move of the code, which is of an event that nothing refuses
abbrev pub accepted : Move → Moved
accepted m =
    move 0 m.value m.totals m.number m.payment m.day m.place m.sum m.warned m.price_place
    (mark_kind m.mark) (mark_from m.mark) (mark_to m.mark)

-- a move of the cells, or a refusal of the event, which leaves them as they were
abbrev pub moved_of : Moved → Result Move Refusal → Moved
moved_of before (Ok m) = accepted m
moved_of before (Err r) = refusing before (refusal_code r)

-- What `move_of` promises: the move, and that the places it names are there.
pub record IsMove (t : Terms) (s : Totals) (payment : Payment) (day : Day) (r : Arrays) (e : Event) (x : Result Move Refusal) : Type 0 where
  pub move : moved_of (cells_before s payment day r e) x ≡ move_of t (cells_before s payment day r e) r e
  pub number : (moved_of (cells_before s payment day r e) x).number < max_payments
  pub place : (moved_of (cells_before s payment day r e) x).place < charge_places
