-- The ledger's refusals sort by sort, for an event that passes codes 2, 3 and 4; and its step by the code.
-- Assumes nothing.
use Prim.Native.Nat.{ℕ}
use mathlib.Core.Path.{◌≡◌}
use mathlib.Core.Bool.{true, false, cond, not, ◌&&◌, ◌||◌, or-false}
use lib.Dec.{ltb, leb, eqb}
use lib.IntN.{pos}
use lib.Signed.{lt_z, le_z}
use Rattle.terms.specs.declared.Terms.{Terms}
use Rattle.ledger.specs.declared.Event.{Event}
use Rattle.ledger.specs.Event.{in_limits}
use Rattle.ledger.specs.Entries.{payment_count, reversed, warned, priced, price_days, usage_day, is_blank, is_metered, barred}
use Rattle.ledger.specs.Rules.{Ledger, may_defer, day_refused, is_full, refusals, first_of}
use Rattle.ledger.specs.Ledger.{Effect, effect_of, joined, answer, refusal, ledger_step}

-- the event passes codes 2, 3 and 4
pub record Passes (l : Ledger) (e : Event) : Type 0 where
  pub days : day_refused l e ≡ false
  pub limits : in_limits e ≡ true
  pub room : is_full l ≡ false

module _ (t : Terms) (l : Ledger) (e : Event) where
  pub code-2 : day_refused l e ≡ true → refusal t l e ≡ 2
  unfolding refusal refusals first_of
  code-2 h = simp h

  pub code-3 : day_refused l e ≡ false → in_limits e ≡ false → refusal t l e ≡ 3
  unfolding refusal refusals first_of
  code-3 h k = simp (h, k)

  pub code-4 : day_refused l e ≡ false → in_limits e ≡ true → is_full l ≡ true → refusal t l e ≡ 4
  unfolding refusal refusals first_of
  code-4 h k f = simp (h, k, f)

  module _ (s : Passes l e) where
    pub pay-code : e.sort ≡ 1 → refusal t l e ≡ cond (leb 128 (payment_count l.list)) 5 0
    unfolding refusal refusals first_of
    pay-code k = simp (s.days, s.limits, s.room, k)

    pub reverse-code : e.sort ≡ 2 → refusal t l e ≡ cond (leb (payment_count l.list) e.number || reversed l.list e.number) 6 0
    unfolding refusal refusals first_of
    reverse-code k = simp (s.days, s.limits, s.room, k)

    pub credit-code : e.sort ≡ 3 → refusal t l e ≡ 0
    unfolding refusal refusals first_of
    credit-code k = simp (s.days, s.limits, s.room, k)

    pub charge-code : e.sort ≡ 4 → refusal t l e ≡ 0
    unfolding refusal refusals first_of
    charge-code k = simp (s.days, s.limits, s.room, k)

    pub estimate-code : e.sort ≡ 5 → refusal t l e ≡ cond (leb e.day e.usage) 7 (cond (not (is_blank (usage_day t l.list e.usage))) 8 0)
    unfolding refusal refusals first_of
    estimate-code k = simp (s.days, s.limits, s.room, k, or-false)

    pub read-code : e.sort ≡ 6 → refusal t l e ≡ cond (leb e.day e.usage) 7 (cond (is_metered (usage_day t l.list e.usage)) 8 0)
    unfolding refusal refusals first_of
    read-code k = simp (s.days, s.limits, s.room, k)

    pub warn-code : e.sort ≡ 7 → refusal t l e ≡ 0
    unfolding refusal refusals first_of
    warn-code k = simp (s.days, s.limits, s.room, k)

    pub mark_code : e.sort ≡ 8 → refusal t l e ≡ 0
    unfolding refusal refusals first_of
    mark_code k = simp (s.days, s.limits, s.room, k)

    pub plan-code : e.sort ≡ 9 → refusal t l e ≡ cond (not (may_defer t l e)) 9 (cond (ltb 0 l.plan) 10 0)
    unfolding refusal refusals first_of
    plan-code k = simp (s.days, s.limits, s.room, k)

    pub disconnect-code : e.sort ≡ 10
        → refusal t l e ≡ cond (not l.on) 11 (cond (le_z (pos t.cutoff) l.balance) 12 (cond (not (warned l.list e.day)) 13 (cond (barred t l.list e.day) 14 0)))
    unfolding refusal refusals first_of
    disconnect-code k = simp (s.days, s.limits, s.room, k, or-false)

    pub connect-code : e.sort ≡ 11 → refusal t l e ≡ cond l.on 11 (cond (lt_z l.balance (pos t.connect)) 12 0)
    unfolding refusal refusals first_of
    connect-code k = simp (s.days, s.limits, s.room, k)

    pub price-code : e.sort ≡ 12 → refusal t l e ≡ cond (leb 16 (price_days l.list) && not (priced l.list e.day)) 17 0
    unfolding refusal refusals first_of
    price-code k = simp (s.days, s.limits, s.room, k)

  -- the step by the code
  pub refuses : (c : ℕ) → refusal t l e ≡ c → eqb c 0 ≡ false → ledger_step t l e ≡ record { ledger = l; answer = answer c 0 }
  unfolding ledger_step
  refuses c h f = simp (h, f)

  pub takes : (m : Effect) → refusal t l e ≡ 0 → effect_of t l e ≡ m → ledger_step t l e ≡ record { ledger = joined l e m; answer = answer 0 m.value }
  unfolding ledger_step
  takes m h k = simp (h, k)
