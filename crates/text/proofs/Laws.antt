-- What is read is taken from the front of the text, and the rest is its end: for those who cite specs/Text.antt. Assumes nothing.
use Rattle.std.proofs.Common.{◌≡◌, ℕ, ◌+◌, ◌-◌, ◌≤◌, Bool, true, false, cond, ltb, eqb, Option, Some, None, IfSome, Bor, List, [], ◌∷◌, length, drop, length-drop, refl, ap, arith}
use mathlib.Core.Path.{subst}
use borrow.Author.Tests.{eqb-true, eqb-false, ltb-false}
use Rattle.terms.specs.declared.Terms.{Terms}
use Rattle.ledger.specs.declared.Event.{Event}
use Rattle.scanner.specs.Scanner.{bytes, Read, got, broken, then, read_value, read_number, read_date, IsRead}
use Rattle.scanner.proofs.Laws.{IsRest, Taken, rest-shorter, rest-is, rest-fewer, rest-taken, then-taken, value-taken, number-taken, date-taken}
use Rattle.text.specs.Text.{FieldLine, sorts, sort_in, fields_in, read_sort, stored, read_fields, event_of, read_event, read_terms, terms_in}
use Rattle.text.proofs.Words.{least, long-enough}

-- ---- an event

asked-taken : (t : Bool) (s : List ℕ) (x y : Read Event) → Taken (λ e. 0) s x → Taken (λ e. 0) s y → Taken (λ e. 0) s (cond t x y)
asked-taken true s x y h g = h
asked-taken false s x y h g = g

fields-taken : (lines : List FieldLine) (e : Event) (s : List ℕ) → Taken (λ e. 0) s (read_fields lines e s)
unfolding read_fields
fields-taken [] e s = record { at = 0; least = omega arith; within = omega arith; is = refl }
fields-taken (l ∷ lines) e s =
    asked-taken (l.asked e) s _ _
    (then-taken _ s _ (read_number l.key s) _ (number-taken l.key s) (λ (n : ℕ) (r : List ℕ) h.
    rest-taken _ s _ (read_fields lines (stored l.field n e) r) h (fields-taken lines (stored l.field n e) r) (λ e. omega arith)))
    (fields-taken lines e s)

-- a payment's field
paid-taken : (e : Event) (s : List ℕ) → Taken (λ e. 1) s (read_fields (fields_in sorts 1) e s)
unfolding read_fields
paid-taken e s = then-taken _ s _ (read_number (bytes "amount") s) _ (number-taken (bytes "amount") s) (λ (n : ℕ) (r : List ℕ) h. rest-fewer h (omega arith))

-- the line of `do` has its word
sort-taken : (s : List ℕ) → Taken (λ k. least k + 4) s (read_sort s)
unfolding read_sort
sort-taken s = then-taken _ s _ (read_value (bytes "do") s) _ (value-taken (bytes "do") s) (λ (v r : List ℕ) h. by v r h (eqb (sort_in sorts v) 0) refl)
  where
    by : (v r : List ℕ) → IsRest (length v + 4) s r → (t : Bool) → eqb (sort_in sorts v) 0 ≡ t → Taken (λ k. least k + 4) s (cond t broken (got (sort_in sorts v) r))
    by v r h true e = tt
    by v r h false e = let l = long-enough v (eqb-false (sort_in sorts v) 0 e) in rest-fewer h (omega arith)

module _ (d : ℕ) (s : List ℕ) where
  by-sort : (k : ℕ) (r : List ℕ) → IsRest (least k + 4) s r → (t : Bool) → eqb k 1 ≡ t → Taken (λ e. 8) s (read_fields (fields_in sorts k) (event_of d k) r)
  by-sort k r h true e =
      let n = eqb-true k 1 e in
      rw n (rest-taken _ s _ (read_fields (fields_in sorts 1) (event_of d 1) r) (rw n at h) (paid-taken (event_of d 1) r) (λ e. omega arith))
  by-sort k r h false e =
      rest-taken _ s _ (read_fields (fields_in sorts k) (event_of d k) r) (simp e at h) (fields-taken (fields_in sorts k) (event_of d k) r) (λ e. omega arith)

  from-do : Taken (λ e. 8) s (then (read_sort s) (λ (k : ℕ) (r : List ℕ). read_fields (fields_in sorts k) (event_of d k) r))
  from-do = then-taken _ s _ (read_sort s) _ (sort-taken s) (λ (k : ℕ) (r : List ℕ) h. by-sort k r h (eqb k 1) refl)

event-taken : (s : List ℕ) → Taken (λ e. 14) s (read_event s)
unfolding read_event
event-taken s =
    then-taken _ s _ (read_number (bytes "day") s) _ (number-taken (bytes "day") s) (λ (d : ℕ) (r : List ℕ) h.
    rest-taken _ s _ (then (read_sort r) _) h (from-do d r) (λ e. omega arith))

pub event-progress : (s : List ℕ) (e : Event) (r : List ℕ) → read_event s ≡ got e r → length r + 14 ≤ length s
event-progress s e r h = rest-shorter (subst (Taken (λ e. 14) s) h (event-taken s))

pub event-shorter : (s : List ℕ) (o : Option (Event × Bor (List ℕ))) → IsRead (read_event s) o → IfSome o (λ p. length p.1.now + 14 ≤ length s)
event-shorter s None h = tt
event-shorter s (Some p) h = event-progress s p.0 p.1.now h

pub event-rest : (s : List ℕ) (e : Event) (r : List ℕ) → read_event s ≡ got e r → r ≡ drop (length s - length r) s
event-rest s e r h = rest-is (subst (Taken (λ e. 14) s) h (event-taken s))

-- ---- the terms

-- a number more
number-next : (s key r : List ℕ) (f : ℕ → List ℕ → Read Terms) → IsRest 0 s r → ((n : ℕ) (q : List ℕ) → IsRest 0 s q → Taken (λ t. 0) s (f n q)) → Taken (λ t. 0) s (then (read_number key r) f)
number-next s key r f h g = then-taken _ s _ (read_number key r) f (rest-taken {B = ℕ} (λ n. 0) s _ (read_number key r) h (number-taken key r) (λ n. omega arith)) g

terms-taken : (s : List ℕ) → Taken (λ t. 0) s (read_terms s)
unfolding read_terms
terms-taken s =
    then-taken _ s _ (read_date (bytes "open") s) _ (date-taken (bytes "open") s) (λ o s₁ h₁.
    number-next s _ s₁ _ (rest-fewer h₁ (omega arith)) (λ p s₂ h₂.
    number-next s _ s₂ _ h₂ (λ c s₃ h₃.
    number-next s _ s₃ _ h₃ (λ f s₄ h₄.
    number-next s _ s₄ _ h₄ (λ h s₅ h₅. h₅)))))

pub terms-rest : (s : List ℕ) (t : Terms) (r : List ℕ) → read_terms s ≡ got t r → r ≡ drop (length s - length r) s
terms-rest s t r h = rest-is (subst (Taken (λ t. 0) s) h (terms-taken s))

-- ---- the terms of a text

-- nothing was read
abbrev IsBroken : {A : Type 0} → Read A → Type 0
IsBroken (got a r) = ⊥
IsBroken broken = Unit

-- those of its lines, where it isn't too long
pub terms-lines : (s : List ℕ) (t : Terms) (r : List ℕ) → terms_in s ≡ got t r → (length s ≤ 65536) × (read_terms s ≡ got t r)
terms-lines s t r = by (ltb 65536 (length s)) refl
  where
    by : (b : Bool) → ltb 65536 (length s) ≡ b → cond b broken (read_terms s) ≡ got t r → (length s ≤ 65536) × (read_terms s ≡ got t r)
    by true e h = absurd (subst IsBroken h tt)
    by false e h = (ltb-false 65536 (length s) e, h)

pub terms_within : (s : List ℕ) (o : Option (Terms × Bor (List ℕ))) → IsRead (terms_in s) o → IfSome o (λ p. (length p.1.now ≤ length s) × (length s ≤ 65536))
terms_within s None h = tt
terms_within s (Some p) h =
    let l = terms-lines s p.0 p.1.now h in
    (omega (arith, ap length (terms-rest s p.0 p.1.now l.1), length-drop (length s - length p.1.now) s), l.0)
