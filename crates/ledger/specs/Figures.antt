-- The figures that document 01 marks (P), "Either side of the line", and rows for the sentences of document 02's T-01: "day 0 being a Monday".
use Rattle.std.specs.Prelude.{ℕ, zero, suc, Bool, true, false, List, [], ◌∷◌, ◌++◌, ℤ, pos, neg_ℤ}
use Rattle.calendar.specs.Calendar.{date}
use Rattle.terms.specs.declared.Terms.{Terms}
use Rattle.ledger.specs.declared.Event.{Event}
use Rattle.ledger.specs.Ledger.{opening, answer, Outcome, ledger_step}

-- the answer to an event, and B, R and service after it
pub record Shown : Type 0 where
  pub code : ℕ
  pub value : ℕ
  pub balance : ℤ
  pub plan : ℕ
  pub on : Bool

-- Events posted to a fresh account, and what is expected of the last of them.
pub record Figure : Type 0 where
  pub terms : Terms
  pub events : List Event
  pub expected : Shown

unfoldable pub run : Terms → Outcome → List Event → Outcome
run t o [] = o
run t o (e ∷ es) = run t (ledger_step t o.ledger e) es

abbrev pub shown_by : Outcome → Shown
shown_by o = record { code = o.answer.code; value = o.answer.value; balance = o.ledger.balance; plan = o.ledger.plan; on = o.ledger.on }

unfoldable pub shown : Figure → Shown
shown f = shown_by (run f.terms (record { ledger = opening; answer = answer 0 0 }) f.events)

-- ---- the events, by their words: the day, then the fields

-- an event of sort s on day x: amount, kind, usage day and Wh, from and to
abbrev pub event : ℕ → ℕ → ℕ → ℕ → ℕ → ℕ → ℕ → ℕ → Event
event s x n k u w from to = record { sort = s; day = x; amount = n; number = 0; kind = k; usage = u; wh = w; from = from; to = to }

abbrev pub pay : ℕ → ℕ → Event
pay x n = event 1 x n 0 0 0 0 0

-- of kind 1
abbrev pub charge : ℕ → ℕ → Event
charge x n = event 4 x n 1 0 0 0 0

abbrev pub estimate : ℕ → ℕ → ℕ → Event
estimate x u w = event 5 x 0 0 u w 0 0

abbrev pub read : ℕ → ℕ → ℕ → Event
read x u w = event 6 x 0 0 u w 0 0

abbrev pub warn : ℕ → Event
warn x = event 7 x 0 0 0 0 0 0

abbrev pub mark : ℕ → ℕ → ℕ → ℕ → Event
mark x k from to = event 8 x 0 k 0 0 from to

abbrev pub plan : ℕ → ℕ → Event
plan x k = event 9 x 0 k 0 0 0 0

abbrev pub disconnect : ℕ → Event
disconnect x = event 10 x 0 0 0 0 0 0

abbrev pub connect : ℕ → Event
connect x = event 11 x 0 0 0 0 0 0

abbrev pub price : ℕ → ℕ → Event
price x p = event 12 x p 0 0 0 0 0

-- a price on each of days 1 to n
abbrev pub daily_prices : ℕ → List Event
daily_prices zero = []
daily_prices (suc n) = daily_prices n ++ (price (suc n) 2500 ∷ [])

-- "terms `2024-01-01`, 1250, 5000, 1000, 50 (day 0 is a Monday)"
abbrev pub terms : Terms
terms = record { opened = date 2024 1 1; price = 1250; connect = 5000; cutoff = 1000; share = 50 }

abbrev pub figure : List Event → ℕ → ℕ → ℤ → ℕ → Bool → Figure
figure es code value b r on = record { terms = terms; events = es; expected = record { code = code; value = value; balance = b; plan = r; on = on } }

unfoldable pub figures : List Figure
figures =
    -- "Price 1250: 39 Wh cost 0, 40 Wh cost 1, 30,000 cost 375, 32,000 cost 400."
    figure (read 1 0 39 ∷ []) 0 0 (pos 0) 0 false
    ∷ figure (read 1 0 40 ∷ []) 0 1 (neg_ℤ (pos 1)) 0 false
    ∷ figure (estimate 1 0 30000 ∷ []) 0 375 (neg_ℤ (pos 375)) 0 false
    ∷ figure (estimate 1 0 30000 ∷ read 1 0 32000 ∷ []) 0 400 (neg_ℤ (pos 400)) 0 false
    -- "Cutoff 1000: B 1000 is refused 12, B 999 passes."
    ∷ figure (pay 0 5000 ∷ connect 0 ∷ charge 0 4000 ∷ warn 3 ∷ disconnect 4 ∷ []) 12 0 (pos 1000) 0 true
    ∷ figure (pay 0 5000 ∷ connect 0 ∷ charge 0 4001 ∷ warn 3 ∷ disconnect 4 ∷ []) 0 0 (pos 999) 0 false
    -- "Warned on day 3 only: day 3 is 13, days 4 and 10 pass, day 11 is 13."
    ∷ figure (pay 0 5000 ∷ connect 0 ∷ charge 0 4001 ∷ warn 3 ∷ disconnect 3 ∷ []) 13 0 (pos 999) 0 true
    ∷ figure (pay 0 5000 ∷ connect 0 ∷ charge 0 4001 ∷ warn 3 ∷ disconnect 4 ∷ []) 0 0 (pos 999) 0 false
    ∷ figure (pay 0 5000 ∷ connect 0 ∷ charge 0 4001 ∷ warn 3 ∷ disconnect 10 ∷ []) 0 0 (pos 999) 0 false
    ∷ figure (pay 0 5000 ∷ connect 0 ∷ charge 0 4001 ∷ warn 3 ∷ disconnect 11 ∷ []) 13 0 (pos 999) 0 true
    -- "B −6000, `connect` 5000: D 11000. Then pay 4001 at share 50: 2000 to the plan, 2001 to B."
    ∷ figure (charge 0 6000 ∷ plan 0 2 ∷ []) 0 11000 (pos 5000) 11000 false
    ∷ figure (charge 0 6000 ∷ plan 0 2 ∷ pay 0 4001 ∷ []) 0 0 (pos 7001) 9000 false
    -- "Weather on Friday, day 4: plan kind 1 passes on day 7, is 9 on day 8; B −4999 is 9."
    ∷ figure (mark 0 1 4 4 ∷ charge 0 5000 ∷ plan 7 1 ∷ []) 0 10000 (pos 5000) 10000 false
    ∷ figure (mark 0 1 4 4 ∷ charge 0 5000 ∷ plan 8 1 ∷ []) 9 0 (neg_ℤ (pos 5000)) 0 false
    ∷ figure (mark 0 1 4 4 ∷ charge 0 4999 ∷ plan 7 1 ∷ []) 9 0 (neg_ℤ (pos 4999)) 0 false
    -- beside the marked ones: "A barred day is a Saturday, a Sunday or a covered day."
    ∷ figure (pay 0 5000 ∷ connect 0 ∷ charge 0 4001 ∷ warn 3 ∷ disconnect 5 ∷ []) 14 0 (pos 999) 0 true
    ∷ figure (pay 0 5000 ∷ connect 0 ∷ charge 0 4001 ∷ warn 3 ∷ disconnect 6 ∷ []) 14 0 (pos 999) 0 true
    ∷ figure (pay 0 5000 ∷ connect 0 ∷ charge 0 4001 ∷ warn 3 ∷ mark 3 3 4 4 ∷ disconnect 4 ∷ []) 14 0 (pos 999) 0 true
    -- "keeping only the newest warning, so that warnings on days 3 and 4 block a cut on day 4"
    ∷ figure (pay 0 5000 ∷ connect 0 ∷ charge 0 4001 ∷ warn 3 ∷ warn 4 ∷ disconnect 4 ∷ []) 0 0 (pos 999) 0 false
    -- "counting R as debt against the cutoff"
    ∷ figure (charge 0 6000 ∷ plan 0 2 ∷ connect 0 ∷ warn 3 ∷ disconnect 4 ∷ []) 12 0 (pos 5000) 11000 true
    -- T-01: "from 1 to 99,999"; "Another price is 3."
    ∷ figure (price 0 0 ∷ []) 3 0 (pos 0) 0 false
    ∷ figure (price 0 1 ∷ []) 0 0 (pos 0) 0 false
    ∷ figure (price 0 99999 ∷ []) 0 0 (pos 0) 0 false
    ∷ figure (price 0 100000 ∷ []) 3 0 (pos 0) 0 false
    -- "in force for usage days from its own day on"; "A usage day's cost is taken at the price in force on that usage day", whenever it is posted
    ∷ figure (price 5 2500 ∷ estimate 6 4 30000 ∷ []) 0 375 (neg_ℤ (pos 375)) 0 false
    ∷ figure (price 5 2500 ∷ estimate 6 5 30000 ∷ []) 0 750 (neg_ℤ (pos 750)) 0 false
    ∷ figure (price 5 2500 ∷ price 8 9999 ∷ read 9 4 30000 ∷ []) 0 375 (neg_ℤ (pos 375)) 0 false
    ∷ figure (price 5 2500 ∷ price 8 9999 ∷ read 9 7 30000 ∷ []) 0 750 (neg_ℤ (pos 750)) 0 false
    -- "the old estimate's cost is given back and the read's cost taken", both at day 4's price
    ∷ figure (estimate 5 4 30000 ∷ price 5 2500 ∷ read 6 4 32000 ∷ []) 0 400 (neg_ℤ (pos 400)) 0 false
    -- "a second one on the same day replaces the first"
    ∷ figure (price 5 9999 ∷ price 5 2500 ∷ read 6 5 30000 ∷ []) 0 750 (neg_ℤ (pos 750)) 0 false
    ∷ figure (price 5 2500 ∷ price 5 9999 ∷ read 6 5 30000 ∷ []) 0 3000 (neg_ℤ (pos 3000)) 0 false
    -- "The opening price counts as day 0's."
    ∷ figure (price 0 9999 ∷ price 0 2500 ∷ read 1 0 30000 ∷ []) 0 750 (neg_ℤ (pos 750)) 0 false
    -- "17, sixteen days after day 0 have a price already and this day is not among them"
    ∷ figure (price 0 2500 ∷ price 1 2500 ∷ daily_prices 16) 0 0 (pos 0) 0 false
    ∷ figure (daily_prices 17) 17 0 (pos 0) 0 false
    ∷ figure (daily_prices 16 ++ (price 16 1 ∷ [])) 0 0 (pos 0) 0 false
    ∷ figure (daily_prices 16 ++ (price 17 0 ∷ [])) 3 0 (pos 0) 0 false
    ∷ figure (daily_prices 16 ++ (price 400 2500 ∷ [])) 2 0 (pos 0) 0 false
    -- B, R and service stay
    ∷ figure (charge 0 6000 ∷ plan 0 2 ∷ connect 0 ∷ price 0 2500 ∷ []) 0 0 (pos 5000) 11000 true
    ∷ []
