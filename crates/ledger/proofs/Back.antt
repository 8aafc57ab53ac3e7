-- A reversal takes back the payment's own two parts, whatever came in between.
-- Assumes nothing.
use mathlib.Core.Path.{◌≡◌, refl, ap, ◌∙◌}
use mathlib.Core.Bool.{true, false, ◌&&◌, and-false}
use mathlib.Core.List.{[], ◌∷◌, ◌++◌}
use mathlib.Core.Option.{some}
use Prim.Native.Nat.{ℕ, ◌+◌, ◌-◌, ◌≤◌, ◌<◌}
use native.Mathlib.Omega.{arith}
use lib.Dec.{eqb}
use lib.IntN.{ℤ, pos, neg_ℤ, ◌+ℤ◌, +ℤ_assoc, +ℤ_comm, +ℤ-neg_ℤ_cancel}
use borrow.Author.Tests.{eq-eqb, ne_eqb}
use Rattle.terms.specs.declared.Terms.{Terms}
use Rattle.ledger.specs.declared.Event.{Event}
use Rattle.ledger.specs.Event.{is_pay, is_reverse}
use Rattle.ledger.specs.Entries.{Entry, Entries, count, find, payment_count, payment}
use Rattle.ledger.specs.Rules.{Ledger}
use Rattle.ledger.specs.Ledger.{plan_part, pay_effect, reverse_effect, effect_of, joined}
use Rattle.ledger.proofs.Cases.{other}

payments-stay : (later l : Entries) → payment_count l ≤ payment_count (later ++ l)
unfolding payment_count count
payments-stay [] l = omega arith
payments-stay (x ∷ later) l = omega (arith, payments-stay later l)

-- a payment keeps its number
pub payment-stays : (n : ℕ) (later l : Entries) → n < payment_count l → payment (later ++ l) n ≡ payment l n
unfolding payment find
payment-stays n [] l h = refl
payment-stays n (x ∷ later) l h =
    let f : (is_pay x.event && eqb (payment_count (later ++ l)) n) ≡ false = simp (ne_eqb (payment_count (later ++ l)) n (λ e. omega (arith, payments-stay later l)), and-false) in
    simp f (payment-stays n later l h)

-- the newest payment's number is how many came before it
pub newest-is : (x : Entry) (l : Entries) → is_pay x.event ≡ true → (payment_count l < payment_count (x ∷ l)) × (payment (x ∷ l) (payment_count l) ≡ some x)
unfolding payment payment_count count find
newest-is x l p = (simp p (omega arith), simp (p, eq-eqb (payment_count l) (payment_count l) refl))

paid : (t : Terms) (l : Ledger) (e : Event) → is_pay e ≡ true → effect_of t l e ≡ pay_effect t l e
unfolding effect_of
paid t l e p = simp p

taken : (t : Terms) (l : Ledger) (r : Event) → is_reverse r ≡ true → effect_of t l r ≡ reverse_effect l r
unfolding effect_of
taken t l r v = simp (other r.sort 2 1 refl v, v)

-- l' comes later than the payment e at l, and r reverses e: R and B move back by as much as e moved them.
pub reversal-exact : (t : Terms) (l l' : Ledger) (e r : Event) (later : Entries) → is_pay e ≡ true → is_reverse r ≡ true → r.number ≡ payment_count l.list
    → l'.list ≡ later ++ (joined l e (effect_of t l e)).list
    → ((effect_of t l' r).plan + (effect_of t l e).plan ≡ l'.plan + l.plan) × ((effect_of t l' r).balance +ℤ (effect_of t l e).balance ≡ l'.balance +ℤ l.balance)
unfolding pay_effect reverse_effect plan_part
reversal-exact t l l' e r later p v n s =
    let x : Entry = record { event = e; part = plan_part t l e.amount } in
    let new = newest-is x l.list p in
    let found : payment l'.list r.number ≡ some x = rw (n, s, paid t l e p) (payment-stays (payment_count l.list) later (x ∷ l.list) new.0 ∙ new.1) in
    let a : ℤ = pos (e.amount - plan_part t l e.amount) in
    simp (paid t l e p, taken t l' r v, found)
    (omega arith, +ℤ_assoc l'.balance (neg_ℤ a) (l.balance +ℤ a) ∙ ap (λ (z : ℤ). l'.balance +ℤ z) (+ℤ_comm (neg_ℤ a) (l.balance +ℤ a) ∙ +ℤ-neg_ℤ_cancel l.balance a))
