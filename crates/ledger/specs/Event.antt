-- The events and the limits of their fields (document 01, "Events"; document 02, T-01). The bold words are numbered in the paper's order,
-- then document 02's.
use Rattle.std.specs.Prelude.{ℕ, Bool, cond, ◌&&◌, ◌||◌, leb, eqb}
use Rattle.calendar.specs.Calendar.{final_day}
use Rattle.terms.specs.Terms.{within, max_price}
use Rattle.ledger.specs.declared.Event.{Event}

abbrev pub is_pay : Event → Bool
is_pay e = eqb e.sort 1

abbrev pub is_reverse : Event → Bool
is_reverse e = eqb e.sort 2

abbrev pub is_credit : Event → Bool
is_credit e = eqb e.sort 3

abbrev pub is_charge : Event → Bool
is_charge e = eqb e.sort 4

abbrev pub is_estimate : Event → Bool
is_estimate e = eqb e.sort 5

abbrev pub is_read : Event → Bool
is_read e = eqb e.sort 6

abbrev pub is_warn : Event → Bool
is_warn e = eqb e.sort 7

abbrev pub is_mark : Event → Bool
is_mark e = eqb e.sort 8

abbrev pub is_plan : Event → Bool
is_plan e = eqb e.sort 9

abbrev pub is_disconnect : Event → Bool
is_disconnect e = eqb e.sort 10

abbrev pub is_connect : Event → Bool
is_connect e = eqb e.sort 11

abbrev pub is_price : Event → Bool
is_price e = eqb e.sort 12

-- "amount (1 to 10,000,000)": the largest, in cents
abbrev pub max_amount : ℕ
max_amount = 10000000

-- "wh (0 to 9,999,999)": the largest Wh of an estimate or a read
abbrev pub max_wh : ℕ
max_wh = 9999999

-- "**pay** amount (1 to 10,000,000)"; "**credit** amount, **charge** kind and amount, amounts within the limits of pay".
abbrev pub amount_in_limits : Event → Bool
amount_in_limits e = within 1 max_amount e.amount

-- "wh (0 to 9,999,999)"
abbrev pub wh_in_limits : Event → Bool
wh_in_limits e = leb e.wh max_wh

-- "Add an event `price` with one field `price`, from 1 to 99,999": its number stands in the event's `amount`.
abbrev pub posted_price : Event → ℕ
posted_price e = e.amount

abbrev pub price_in_limits : Event → Bool
price_in_limits e = within 1 max_price (posted_price e)

-- "with x ≤ from ≤ to ≤ 399"
abbrev pub mark_days_in_limits : Event → Bool
mark_days_in_limits e = leb e.day e.from && (leb e.from e.to && leb e.to final_day)

-- "Charge kinds 1 to 5"
abbrev pub charge_kind_count : ℕ
charge_kind_count = 5

abbrev pub is_charge_kind : ℕ → Bool
is_charge_kind k = within 1 charge_kind_count k

-- a mark's: "1 extreme weather emergency, 2 payment means down, 3 confirmed assistance pledge"
abbrev pub is_mark_kind : ℕ → Bool
is_mark_kind k = within 1 3 k

-- a plan's: "Kind 1, required"; "Kind 2, offered"
abbrev pub is_plan_kind : ℕ → Bool
is_plan_kind k = within 1 2 k

-- What code 3 asks of an event: "event sort, amount, wh, kind, mark days"; "Another price is 3." A reverse's number and a usage day have no limit
-- under 3.
unfoldable pub in_limits : Event → Bool
in_limits e =
    cond (is_pay e || is_credit e) (amount_in_limits e)
    (cond (is_charge e) (is_charge_kind e.kind && amount_in_limits e)
    (cond (is_estimate e || is_read e) (wh_in_limits e)
    (cond (is_mark e) (is_mark_kind e.kind && mark_days_in_limits e)
    (cond (is_plan e) (is_plan_kind e.kind)
    (cond (is_price e) (price_in_limits e)
    (is_reverse e || is_warn e || is_disconnect e || is_connect e))))))
