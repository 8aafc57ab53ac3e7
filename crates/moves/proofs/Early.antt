-- What holds once the checks of every event have passed. Assumes nothing.
use mathlib.Core.Path.{◌≡◌}
use mathlib.Core.Bool.{true}
use mathlib.Core.Logic.{◌⊎◌}
use Prim.Native.Nat.{ℕ, ◌≤◌, ◌<◌}
use native.Mathlib.Omega.{arith}
use borrow.Author.Tests.{le-leb}
use Rattle.std.proofs.lemmas.Bool.Decides.{nat_tests}
use Rattle.std.specs.Prelude.{Some}
use Rattle.calendar.specs.Calendar.{opens, is_day, date_on, days_after, weekday_of, month_on, month_answer, weekday_on}
use Rattle.calendar.proofs.Laws.{month-limit, weekday-after}
use Rattle.tariff.specs.Tariff.{cost_of}
use Rattle.terms.specs.Terms.{valid_terms, terms_code}
use Rattle.terms.specs.declared.Terms.{Terms}
use Rattle.ledger.specs.Event.{in_limits}
use Rattle.ledger.specs.declared.Event.{Event}
use Rattle.moves.specs.Moves.{is_account, early_code}
use Rattle.moves.specs.declared.Totals.{Totals}
use Rattle.moves.proofs.Cost.{cost-limit}

-- ---- the terms, the totals and the day

-- what the test of an account tells
pub record InReach (t : Terms) (s : Totals) : Type 0 where
  pub terms : terms_code t ≡ 0
  pub credit : s.credit ≤ 1152921504606846976
  pub debit : s.debit ≤ 1152921504606846976
  pub plan : s.plan ≤ 1152921504606846976
  pub standing : s.standing ≤ 1152921504606846976
  pub count : s.count ≤ 128

pub in_reach : (t : Terms) (s : Totals) → is_account t s ≡ true → InReach t s
unfolding is_account
in_reach t s h = grind (arith, nat_tests)

-- what the limits of the terms ask
pub record Limited (t : Terms) : Type 0 where
  pub opened : opens t.opened ≡ true
  pub price : t.price ≤ 99999
  pub connect : t.connect ≤ 7500
  pub cutoff : t.cutoff ≤ 1000
  pub order : t.cutoff ≤ t.connect
  pub share : t.share ≤ 50

limited : (t : Terms) → valid_terms t ≡ true → Limited t
unfolding valid_terms
limited t h = grind (arith, nat_tests)

-- what the four checks ask
pub record Passed (t : Terms) (s : Totals) (e : Event) : Type 0 where
  pub account : is_account t s ≡ true
  pub last : s.last ≤ e.day
  pub day : e.day ≤ 399
  pub limits : in_limits e ≡ true
  pub room : s.events < 4096

passed : (t : Terms) (s : Totals) (e : Event) → early_code t s e ≡ 0 → Passed t s e
unfolding early_code
passed t s e h = grind (arith, nat_tests)

pub record Early (t : Terms) (s : Totals) (e : Event) : Type 0 where
  pub passed : Passed t s e
  pub reach : InReach t s
  pub terms : Limited t

pub valid : (t : Terms) → terms_code t ≡ 0 → valid_terms t ≡ true
unfolding terms_code
valid t h = grind (arith, nat_tests)

pub early : (t : Terms) (s : Totals) (e : Event) → early_code t s e ≡ 0 → Early t s e
early t s e h =
    let p = passed t s e h in
    let r = in_reach t s p.account in
    record { passed = p; reach = r; terms = limited t (valid t r.terms) }

-- the event's day is one of the account's, in one of months 0 to 14
pub is-day : (t : Terms) (s : Totals) (e : Event) → Early t s e → is_day t.opened e.day ≡ true
is-day t s e k = simp (k.terms.opened, le-leb e.day 399 k.passed.day)

pub month-on : (t : Terms) (s : Totals) (e : Event) → Early t s e → month_on t.opened e.day ≤ 14
month-on t s e k = let h = is-day t s e k in rw h (month-limit t.opened e.day h)

-- what the calendar answers of that day
pub month_is : (t : Terms) (s : Totals) (e : Event) → early_code t s e ≡ 0 → month_answer t.opened e.day ≡ Some (month_on t.opened e.day)
month_is t s e h = simp (is-day t s e (early t s e h))

pub weekday_is : (t : Terms) (s : Totals) (e : Event) → early_code t s e ≡ 0 → weekday_on t.opened e.day ≤ 6
unfolding weekday_of
weekday_is t s e h =
    simp (is-day t s e (early t s e h)) (let w = weekday-after (days_after (date_on t.opened e.day)) in omega (arith, w))

-- ---- the event's fields, by its sort

pub record Between (low high n : ℕ) : Type 0 where
  pub least : low ≤ n
  pub most : n ≤ high

pub pay-limits : (e : Event) → e.sort ≡ 1 → in_limits e ≡ true → Between 1 10000000 e.amount
unfolding in_limits
pay-limits e s h = grind (arith, nat_tests)

pub credit-limits : (e : Event) → e.sort ≡ 3 → in_limits e ≡ true → Between 1 10000000 e.amount
unfolding in_limits
credit-limits e s h = grind (arith, nat_tests)

pub record ChargeLimits (e : Event) : Type 0 where
  pub kind : Between 1 5 e.kind
  pub amount : Between 1 10000000 e.amount

pub charge-limits : (e : Event) → e.sort ≡ 4 → in_limits e ≡ true → ChargeLimits e
unfolding in_limits
charge-limits e s h = grind (arith, nat_tests)

pub usage-limits : (e : Event) → (e.sort ≡ 5) ⊎ (e.sort ≡ 6) → in_limits e ≡ true → e.wh ≤ 9999999
unfolding in_limits
usage-limits e s h = grind (arith, nat_tests)

-- the cost of a usage day at a price within its limit, for an estimate and for a read
pub cost-on : (t : Terms) (s : Totals) (e : Event) (price : ℕ) → Early t s e → (e.sort ≡ 5) ⊎ (e.sort ≡ 6) → price ≤ 99999 → cost_of e.wh price ≤ 9999899
cost-on t s e price k h p = cost-limit e.wh price (usage-limits e h k.passed.limits) p

pub record MarkLimits (e : Event) : Type 0 where
  pub kind : Between 1 3 e.kind
  pub day : e.day ≤ e.from
  pub from : e.from ≤ e.to
  pub to : e.to ≤ 399

pub mark-limits : (e : Event) → e.sort ≡ 8 → in_limits e ≡ true → MarkLimits e
unfolding in_limits
mark-limits e s h = grind (arith, nat_tests)

-- ---- what the checks of every event leave of one sort, for the proofs of its function

pub record ChargeBounds (t : Terms) (e : Event) : Type 0 where
  pub month : month_on t.opened e.day ≤ 14
  pub least : 1 ≤ e.kind
  pub most : e.kind ≤ 5

pub charge_bounds : (t : Terms) (s : Totals) (e : Event) → early_code t s e ≡ 0 → e.sort ≡ 4 → ChargeBounds t e
charge_bounds t s e h k =
    let a = early t s e h in
    let f = charge-limits e k a.passed.limits in
    record { month = month-on t s e a; least = f.kind.least; most = f.kind.most }

pub mark_order : (t : Terms) (s : Totals) (e : Event) → early_code t s e ≡ 0 → e.sort ≡ 8 → e.from ≤ e.to
mark_order t s e h k = (mark-limits e k (early t s e h).passed.limits).from

-- of an estimate and of a read
pub usage_cost : (t : Terms) (s : Totals) (e : Event) (price : ℕ) → early_code t s e ≡ 0 → (e.sort ≡ 5) ⊎ (e.sort ≡ 6) → price ≤ 99999 → cost_of e.wh price ≤ 9999899
usage_cost t s e price h k p = cost-on t s e price (early t s e h) k p
