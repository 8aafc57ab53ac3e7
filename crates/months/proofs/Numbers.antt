-- The ledger's payments by their numbers: a sum over L is one over the numbers, and each payment's day is one of days 0 to 399.
-- Assumes nothing.
use Prim.Native.Nat.{ℕ, ◌≤◌}
use native.Mathlib.Omega.{arith}
use native.Mathlib.Numerals.{add-one}
use mathlib.Core.Path.{◌≡◌, refl}
use mathlib.Core.Bool.{Bool, true, false, cond, ◌&&◌, and-false}
use mathlib.Core.List.{List, [], ◌∷◌}
use mathlib.Core.Option.{Option, some}
use Rattle.calendar.specs.Calendar.{total}
use Rattle.terms.specs.declared.Terms.{Terms}
use Rattle.ledger.specs.declared.Event.{Event}
use Rattle.ledger.specs.Event.{is_pay}
use Rattle.ledger.specs.Entries.{Entry, Entries, count, sum, sum_of, find, payment_count, payment, paid_on, has_number}
use Rattle.ledger.specs.Rules.{Ledger}
use Rattle.ledger.specs.Ledger.{opening, effect_of, accepts, ledger_step, ledger_after}
use Rattle.ledger.proofs.Cases.{decide}
use Rattle.ledger.proofs.Accepted.{accepted-by}
use Rattle.refinement.proofs.Fields.{payments-same, payments-one, payment-same, payment-old, payment-new}
use Rattle.months.proofs.Sums.{total-same}

module _ (r : Option Entry → Bool) (q : ℕ → Bool) (f : Option Entry → ℕ) where
  -- what payment n comes to
  abbrev part : Entries → ℕ → ℕ
  part l n = cond (r (payment l n) && q n) (f (payment l n)) 0

  -- what the payments of L come to
  abbrev all : Entries → ℕ
  all l = sum_of (λ (x : Entry) (before : Entries). r (some x) && (is_pay x.event && q (payment_count before))) (λ (x : Entry). f (some x)) l

  paid : (x : Entry) (l : Entries) → is_pay x.event ≡ true → all l ≡ total (part l) (payment_count l) → all (x ∷ l) ≡ total (part (x ∷ l)) (payment_count (x ∷ l))
  unfolding sum total
  paid x l t h =
      rw (payments-one x.event x.part l t, add-one (payment_count l), payment-new x.event x.part l t)
      (simp t (omega (arith, h, total-same (part (x ∷ l)) (part l) (payment_count l) (λ n b. rw (payment-old x.event x.part l n (λ e. omega arith))))))

  unpaid : (x : Entry) (l : Entries) → is_pay x.event ≡ false → all l ≡ total (part l) (payment_count l) → all (x ∷ l) ≡ total (part (x ∷ l)) (payment_count (x ∷ l))
  unfolding sum
  unpaid x l t h =
      rw (payments-same x.event x.part l t)
      (simp (t, and-false) (omega (arith, h, total-same (part (x ∷ l)) (part l) (payment_count l) (λ n b. rw (payment-same x.event x.part l n t)))))

  pub by_number : (l : Entries) → all l ≡ total (part l) (payment_count l)
  unfolding sum payment_count count total
  by_number [] = refl
  by_number (x ∷ l) = decide (is_pay x.event) (λ t. paid x l t (by_number l)) (λ t. unpaid x l t (by_number l))

-- ---- the days of payments

abbrev pub Dated : Entries → Type 0
Dated l = (n : ℕ) → paid_on l n ≤ 399

dated-step : (t : Terms) (l : Ledger) (e : Event) → Dated l.list → Dated (ledger_step t l e).ledger.list
unfolding ledger_step payment find
dated-step t l e h n = decide (accepts t l e)
    (λ y. simp y (decide (has_number n (record { event = e; part = (effect_of t l e).part }) l.list)
    (λ p. simp p (accepted-by t l e y).upto)
    (λ p. simp p (h n))))
    (λ f. simp f (h n))

dated-from : (t : Terms) (es : List Event) (l : Ledger) → Dated l.list → Dated (ledger_after t l es).list
unfolding ledger_after
dated-from t [] l h = h
dated-from t (e ∷ es) l h = dated-from t es (ledger_step t l e).ledger (dated-step t l e h)

-- Every payment that the ledger accepted is of one of days 0 to 399.
pub dated-after : (t : Terms) (es : List Event) → Dated (ledger_after t opening es).list
unfolding payment find
dated-after t es = dated-from t es opening (λ n. omega arith)
