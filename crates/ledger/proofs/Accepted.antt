-- What the table's silence says: of an accepted event, that no rule applies. A rule is looked up by its number.
-- Assumes nothing.
use mathlib.Core.Path.{◌≡◌, refl}
use mathlib.Core.Bool.{Bool, true, false, cond, ◌&&◌}
use mathlib.Core.List.{List, [], ◌∷◌}
use Prim.Native.Nat.{ℕ, ◌≤◌, ◌<◌}
use lib.ListN.{length}
use lib.Dec.{ltb, eqb}
use native.Mathlib.Omega.{arith}
use borrow.Author.Tests.{ltb-true, ltb-false, leb-false, eqb-true, not-false}
use Rattle.std.proofs.lemmas.Bool.{and_parts, or_parts}
use Rattle.terms.specs.declared.Terms.{Terms}
use Rattle.ledger.specs.declared.Event.{Event}
use Rattle.ledger.specs.Event.{in_limits}
use Rattle.ledger.specs.Entries.{last_day}
use Rattle.ledger.specs.Rules.{Ledger, Rule, refusals, first_of}
use Rattle.ledger.specs.Ledger.{refusal, accepts}
use Rattle.ledger.proofs.Cases.{decide}

-- whether the rule of number n applies
abbrev pub applies : ℕ → List Rule → Bool
applies n [] = false
applies n (r ∷ rs) = cond (eqb r.0 n) r.1 (applies n rs)

pub record Accepted (t : Terms) (l : Ledger) (e : Event) : Type 0 where
  pub order : last_day l.list ≤ e.day
  pub upto : e.day ≤ 399
  pub limits : in_limits e ≡ true
  pub room : length l.list < 4096
  pub rule : (n : ℕ) → applies n (refusals t l e) ≡ false

-- Every rule has a number above 0.
numbered : List Rule → Bool
numbered [] = true
numbered (r ∷ rs) = ltb 0 r.0 && numbered rs

-- Where the first number is 0, no rule applies.
none-applies : (rs : List Rule) → numbered rs ≡ true → first_of rs ≡ 0 → (n : ℕ) → applies n rs ≡ false
unfolding numbered first_of
none-applies [] above z n = refl
none-applies (r ∷ rs) above z n =
    let b = and_parts (ltb 0 r.0) (numbered rs) above in
    decide r.1
    (λ t. absurd (omega (arith, ltb-true 0 r.0 b.0, simp t at z)))
    (λ f. decide (eqb r.0 n) (λ y. simp (y, f)) (λ d. simp d (none-applies rs b.1 (simp f at z) n)))

pub accepted-by : (t : Terms) (l : Ledger) (e : Event) → accepts t l e ≡ true → Accepted t l e
unfolding refusals refusal numbered
accepted-by t l e a = record {
  order = ltb-false e.day (last_day l.list) days.0;
  upto = ltb-false 399 e.day days.1;
  limits = not-false (in_limits e) (rule 3);
  room = leb-false 4096 (length l.list) (rule 4);
  rule = rule;
}
  where
    rule : (n : ℕ) → applies n (refusals t l e) ≡ false
    rule = none-applies (refusals t l e) refl (eqb-true (refusal t l e) 0 a)

    days : (ltb e.day (last_day l.list) ≡ false) × (ltb 399 e.day ≡ false)
    days = or_parts (ltb e.day (last_day l.list)) (ltb 399 e.day) (rule 2)
