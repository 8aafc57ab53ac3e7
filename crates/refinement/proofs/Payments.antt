-- Payments, reversals, credits and charges refine the ledger's.
-- Assumes nothing.
use Prim.Native.Nat.{ℕ, suc, ◌+◌, ◌-◌, ◌≤◌, ◌<◌}
use native.Mathlib.Omega.{arith}
use native.Mathlib.Nat.{mod-eq_of_lt}
use mathlib.Core.Path.{◌≡◌, refl, sym, ap, ◌∙◌}
use mathlib.Core.Bool.{true, false}
use lib.ListN.{get_or}
use lib.Dec.{ltb, leb}
use lib.IntN.{pos, ◌+ℤ◌, ◌-ℤ◌}
use borrow.Author.Tests.{leb-false, le-leb, le-ltb}
use Rattle.calendar.specs.Calendar.{is_day, month_on}
use Rattle.calendar.proofs.Laws.{month-limit}
use Rattle.terms.specs.declared.Terms.{Terms}
use Rattle.ledger.specs.declared.Event.{Event}
use Rattle.ledger.specs.Entries.{payment_count, paid_amount, paid_part, reversed}
use Rattle.ledger.specs.Rules.{Ledger}
use Rattle.ledger.specs.Months.{month_of}
use Rattle.ledger.specs.Ledger.{effect_of, plan_part, pay_effect, reverse_effect, balance_effect}
use Rattle.ledger.specs.Invariant.{Invariant}
use Rattle.ledger.proofs.Cases.{decide}
use Rattle.ledger.proofs.Money.{diff}
use Rattle.moves.specs.Moves.{Moved, max_total, cells_before, part_in, charge_place, pay_of, reverse_of, credit_of, charge_of}
use Rattle.moves.specs.declared.Payment.{Payment}
use Rattle.moves.proofs.Arms.{branch}
use Rattle.moves.proofs.Early.{pay-limits, credit-limits, charge-limits}
use Rattle.account.specs.Record.{no_payment}
use Rattle.account.specs.Step.{number_at, cells_of}
use Rattle.account.specs.declared.Account.{Account}
use Rattle.refinement.specs.Agree.{Agree, recorded_payment}
use Rattle.refinement.proofs.Refusals.{Passes, pay-code, reverse-code, credit-code, charge-code}
use Rattle.refinement.proofs.Keeps.{charges-set, payments-set, payments-reverse}
use Rattle.refinement.proofs.Agreed.{Refines, refused-same, raised, lowered, facts}
use Rattle.refinement.proofs.Cells.{accepted}

module _ (a : Account) (l : Ledger) (e : Event) (g : Agree a.terms a l) (s : Invariant a.terms l) (h : Passes l e) where
  abbrev t : Terms
  t = a.terms

  abbrev c : Moved
  c = cells_of a e

  part-is : part_in t a.totals e ≡ plan_part t l e.amount
  unfolding plan_part
  part-is = rw g.sums.plan refl

  unreversed : reversed l.list (payment_count l.list) ≡ false
  unreversed = decide (reversed l.list (payment_count l.list)) (λ r. absurd (omega (arith, s.numbers _ r))) (λ f. f)

  pub pays : e.sort ≡ 1 → Refines a l e (pay_of t c e)
  unfolding effect_of pay_of pay_effect cells_before
  pays k = branch (Refines a l e) (leb 128 a.totals.count)
      (λ y. refused-same a l g e 5 (pay-code t l e h k ∙ simp (rw g.sums.count at y)) refl)
      (λ f. let f' : leb 128 (payment_count l.list) ≡ false = rw g.sums.count at f in
      let p : ℕ = plan_part t l e.amount in
      accepted a l e g s h (pay-code t l e h k ∙ simp f') 1 k _ refl (pay_effect t l e)
      (rw (part-is, g.sums.count) (payments-set t a e p l.list g.kept (rw k refl) (rw k refl) g.sizes.payments (leb-false 128 (payment_count l.list) f') unreversed))
      (rw k refl) refl g.sums.count
      (record {
        balance = raised a l g (e.amount - p) ∙ ap (λ (q : ℕ). diff (a.totals.credit + (e.amount - q)) a.totals.debit) (sym part-is);
        plan = ap (λ (q : ℕ). a.totals.plan - q) part-is ∙ ap (λ (r : ℕ). r - p) g.sums.plan;
        on = g.sums.on;
        credit-most = omega (arith, g.bounds.credit, (pay-limits e k h.limits).most);
        debit-most = omega (arith, g.bounds.debit);
        plan-most = omega (arith, g.bounds.plan);
      }))

  -- the payment that is reversed, as both have it
  module _ (f : leb a.totals.count e.number ≡ false) where
    there : e.number < payment_count l.list
    there = omega (arith, leb-false a.totals.count e.number f, g.sums.count)

    number_is : number_at e ≡ e.number
    number_is = mod-eq_of_lt (omega (arith, there, g.sums.count, g.bounds.count))

    payment-is : c.payment ≡ recorded_payment l.list e.number
    unfolding cells_before
    payment-is = ap (λ (i : ℕ). get_or a.payments i no_payment) number_is ∙ g.kept.payments e.number there

  pub reverses : e.sort ≡ 2 → Refines a l e (reverse_of t c e)
  unfolding effect_of reverse_of reverse_effect cells_before
  reverses k = branch (Refines a l e) (leb a.totals.count e.number)
      (λ y. refused-same a l g e 6 (reverse-code t l e h k ∙ simp (rw g.sums.count at y)) refl)
      (λ f. let is-reversed : c.payment.reversed ≡ reversed l.list e.number = ap (λ (x : Payment). x.reversed) (payment-is f) in
      branch (Refines a l e) c.payment.reversed
      (λ r. refused-same a l g e 6 (reverse-code t l e h k ∙ simp (rw g.sums.count at f, sym is-reversed ∙ r)) refl)
      (λ r. accepted a l e g s h (reverse-code t l e h k ∙ simp (rw g.sums.count at f, sym is-reversed ∙ r)) 2 k _ refl (reverse_effect l e)
      (rw (number_is f, g.kept.payments e.number (there f)) (payments-reverse t a e 0 l.list g.kept (rw k refl) (rw k refl) g.sizes.payments (omega (arith, g.bounds.count, g.sums.count)) (there f)))
      (rw k refl) refl refl
      (record {
        balance = lowered a l g (paid_amount l.list e.number - paid_part l.list e.number) ∙ ap (λ (x : Payment). diff a.totals.credit (a.totals.debit + (x.amount - x.part))) (sym (payment-is f));
        plan = ap (λ (x : Payment). a.totals.plan + x.part) (payment-is f) ∙ ap (λ (x : ℕ). x + paid_part l.list e.number) g.sums.plan;
        on = g.sums.on;
        credit-most = omega (arith, g.bounds.credit);
        debit-most = omega (arith, g.bounds.debit, ap (λ (x : Payment). x.amount) (payment-is f), g.kept.amounts e.number);
        plan-most = omega (arith, g.bounds.plan, ap (λ (x : Payment). x.part) (payment-is f), g.kept.amounts e.number, s.parts e.number);
      })))

  pub credits : e.sort ≡ 3 → Refines a l e (credit_of t c e)
  unfolding effect_of credit_of cells_before
  credits k = accepted a l e g s h (credit-code t l e h k) 3 k _ refl (balance_effect l 0 (l.balance +ℤ pos e.amount)) tt (rw k refl) refl refl
      (record {
        balance = raised a l g e.amount;
        plan = g.sums.plan;
        on = g.sums.on;
        credit-most = omega (arith, g.bounds.credit, (credit-limits e k h.limits).most);
        debit-most = omega (arith, g.bounds.debit);
        plan-most = omega (arith, g.bounds.plan);
      })

  -- the event's day has a month
  a-day : is_day t.opened e.day ≡ true
  a-day = simp ((facts a l g e h).terms.opened, le-leb e.day 399 (facts a l g e h).passed.day)

  month-is : month_on t.opened e.day ≡ month_of t e.day
  month-is = simp a-day

  -- no month's charges of a kind pass the largest total
  small : e.sort ≡ 4 → ltb max_total (get_or a.charges (charge_place t e) 0) ≡ false
  small k =
      let limit = charge-limits e k h.limits in
      let month : month_of t e.day ≤ 14 = month-limit t.opened e.day a-day in
      le-ltb max_total (get_or a.charges (charge_place t e) 0) (rw (month-is, g.kept.charges (month_of t e.day) (e.kind - 1) (omega arith) (omega (arith, limit.kind.most)))
      (omega (arith, g.kept.charged (month_of t e.day) (suc (e.kind - 1)), g.bounds.full, g.sums.events)))

  pub charged : e.sort ≡ 4 → Refines a l e (charge_of t c a.charges e)
  unfolding effect_of charge_of cells_before
  charged k =
      let limit = charge-limits e k h.limits in
      rw (small k) (accepted a l e g s h (charge-code t l e h k) 4 k _ refl (balance_effect l 0 (l.balance -ℤ pos e.amount))
      (charges-set t a e 0 l.list g.kept (rw k refl) g.sizes.charges month-is (month-limit t.opened e.day a-day) limit.kind.least limit.kind.most)
      (rw k refl) refl refl
      (record {
        balance = lowered a l g e.amount;
        plan = g.sums.plan;
        on = g.sums.on;
        credit-most = omega (arith, g.bounds.credit);
        debit-most = omega (arith, g.bounds.debit, limit.amount.most);
        plan-most = omega (arith, g.bounds.plan);
      }))
