-- The ledger's step (document 01, "Events" and "The ledger of demand 3").
use Rattle.std.specs.Prelude.{ℕ, ◌+◌, ◌*◌, ◌-◌, ◌/◌, min, Bool, true, false, cond, List, [], ◌∷◌, eqb, ℤ, pos, ◌+ℤ◌, ◌-ℤ◌, nat_abs}
use Rattle.terms.specs.declared.Terms.{Terms}
use Rattle.ledger.specs.declared.Event.{Event}
use Rattle.ledger.specs.declared.Answer.{Answer}
use Rattle.ledger.specs.Event.{is_pay, is_reverse, is_credit, is_charge, is_estimate, is_read, is_plan, is_disconnect, is_connect}
use Rattle.ledger.specs.Entries.{payment_count, paid_amount, paid_part, usage_cost, usage_day, estimate_cost_of}
use Rattle.ledger.specs.Rules.{Ledger, refusals, first_of}

-- "At first L is empty, B and R are 0, service is off."
abbrev pub opening : Ledger
opening = record { list = []; balance = pos 0; plan = 0; on = false }

-- What an accepted event does: its value, its payment's plan part, and B, R and service after it.
pub record Effect : Type 0 where
  pub value : ℕ
  pub part : ℕ
  pub balance : ℤ
  pub plan : ℕ
  pub on : Bool

abbrev pub effect : ℕ → ℕ → ℤ → ℕ → Bool → Effect
effect value part b r on = record { value = value; part = part; balance = b; plan = r; on = on }

-- "Plan part = the smaller of R and amount × share / 100 rounded down."
unfoldable pub plan_part : Terms → Ledger → ℕ → ℕ
plan_part t l amount = min l.plan (amount * t.share / 100)

-- "R falls by it; B rises by the rest. Value: the payment's number, from 0."
unfoldable pub pay_effect : Terms → Ledger → Event → Effect
pay_effect t l e =
    let part : ℕ = plan_part t l e.amount in
    effect (payment_count l.list) part (l.balance +ℤ pos (e.amount - part)) (l.plan - part) l.on

-- "The payment's own two parts are taken back: B falls, R rises."
unfoldable pub reverse_effect : Ledger → Event → Effect
reverse_effect l e =
    let part : ℕ = paid_part l.list e.number in
    effect 0 0 (l.balance -ℤ pos (paid_amount l.list e.number - part)) (l.plan + part) l.on

-- an effect on B alone, with value v
abbrev pub balance_effect : Ledger → ℕ → ℤ → Effect
balance_effect l v b = effect v 0 b l.plan l.on

-- an effect on service alone, with value 0
abbrev pub service_effect : Ledger → Bool → Effect
service_effect l b = effect 0 0 l.balance l.plan b

-- "An estimate takes a blank day only, and B falls by its cost."; "Value: the new cost."
unfoldable pub estimate_effect : Terms → Ledger → Event → Effect
estimate_effect t l e = balance_effect l (usage_cost t l.list e) (l.balance -ℤ pos (usage_cost t l.list e))

-- "the old estimate's cost is given back and the read's cost taken"; "Value: the new cost."
unfoldable pub read_effect : Terms → Ledger → Event → Effect
read_effect t l e =
    balance_effect l (usage_cost t l.list e)
    (l.balance +ℤ pos (estimate_cost_of (usage_day t l.list e.usage)) -ℤ pos (usage_cost t l.list e))

-- "It defers D = connect − B": of an accepted plan B is below 0, so D is above 0 and is its own magnitude.
unfoldable pub deferred : Terms → Ledger → ℕ
deferred t l = nat_abs (pos t.connect -ℤ l.balance)

-- "B becomes `connect` and R rises by D"; "Value: D."
unfoldable pub plan_effect : Terms → Ledger → Effect
plan_effect t l = effect (deferred t l) 0 (pos t.connect) (l.plan + deferred t l) l.on

-- "A credit raises B by its whole amount, a charge lowers it by its own; R stays."; "Service is then off."; "Service is then on."
-- A warn, a mark and a price change neither B, R nor service. "the value 0 unless named here"
unfoldable pub effect_of : Terms → Ledger → Event → Effect
effect_of t l e =
    cond (is_pay e) (pay_effect t l e)
    (cond (is_reverse e) (reverse_effect l e)
    (cond (is_credit e) (balance_effect l 0 (l.balance +ℤ pos e.amount))
    (cond (is_charge e) (balance_effect l 0 (l.balance -ℤ pos e.amount))
    (cond (is_estimate e) (estimate_effect t l e)
    (cond (is_read e) (read_effect t l e)
    (cond (is_plan e) (plan_effect t l)
    (cond (is_disconnect e) (service_effect l false)
    (cond (is_connect e) (service_effect l true)
    (service_effect l l.on)))))))))

-- "the event joins L, and B, R and service move as above"
abbrev pub joined : Ledger → Event → Effect → Ledger
joined l e x = record {
  list = record { event = e; part = x.part } ∷ l.list;
  balance = x.balance;
  plan = x.plan;
  on = x.on;
}

abbrev pub answer : ℕ → ℕ → Answer
answer code value = record { code = code; value = value }

pub record Outcome : Type 0 where
  pub ledger : Ledger
  pub answer : Answer

-- The number by which the table refuses the event. "A granted or accepted event has code 0."
unfoldable pub refusal : Terms → Ledger → Event → ℕ
refusal t l e = first_of (refusals t l e)

abbrev pub accepts : Terms → Ledger → Event → Bool
accepts t l e = eqb (refusal t l e) 0

-- "Its step: if the table below refuses the event, the answer is that code with value 0, and the ledger stays as it is.
-- Otherwise the answer is 0 with the value above"
unfoldable pub ledger_step : Terms → Ledger → Event → Outcome
ledger_step t l e =
    cond (accepts t l e)
    (record { ledger = joined l e (effect_of t l e); answer = answer 0 (effect_of t l e).value })
    (record { ledger = l; answer = answer (refusal t l e) 0 })

-- "fed the terms that made the account, then every event in the order of posting"
unfoldable pub ledger_after : Terms → Ledger → List Event → Ledger
ledger_after t l [] = l
ledger_after t l (e ∷ es) = ledger_after t (ledger_step t l e).ledger es

-- the ledger fed these events from its opening on
abbrev pub ledger_of : Terms → List Event → Ledger
ledger_of t es = ledger_after t opening es
