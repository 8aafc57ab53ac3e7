-- The standing estimates cost nothing exactly when each usage day's does.
-- Assumes nothing.
use mathlib.Core.Path.{◌≡◌, refl, sym, ◌∙◌}
use mathlib.Core.Bool.{Bool, true, false, cond, not, ◌&&◌, true≢false}
use mathlib.Core.List.{[], ◌∷◌}
use mathlib.Core.Logic.{◌↔◌}
use Prim.Native.Nat.{ℕ}
use native.Mathlib.Omega.{arith}
use lib.Dec.{eqb}
use borrow.Author.Tests.{eq-eqb}
use Rattle.terms.specs.declared.Terms.{Terms}
use Rattle.ledger.specs.Event.{is_estimate}
use Rattle.ledger.specs.Entries.{Entry, Entries, any, sum, sum_of, read_on, usage_day, estimate_cost_of, usage_cost}
use Rattle.ledger.specs.Rules.{Ledger}
use Rattle.ledger.specs.Sums.{standing_cost}
use Rattle.ledger.proofs.Cases.{decide}
use Rattle.ledger.specs.Invariant.{All, Invariant}
use Rattle.ledger.proofs.Weights.{all_map, take_out}
use Rattle.ledger.proofs.Identity.{replaced}

-- where a sum is 0, each of its parts is
each-zero : (m : Entry → Bool) (w : Entry → ℕ) (l : Entries) → sum_of (λ (x : Entry) (b : Entries). m x) w l ≡ 0 → All (λ (x : Entry). m x ≡ true → w x ≡ 0) l
unfolding sum
each-zero m w [] z = tt
each-zero m w (x ∷ l) z = (λ y. omega (arith, simp y at z), each-zero m w l (omega arith))

sum-zero : (f : Entry → Entries → ℕ) (l : Entries) → All (λ (x : Entry). (b : Entries) → f x b ≡ 0) l → sum f l ≡ 0
unfolding sum
sum-zero f [] a = refl
sum-zero f (x ∷ l) a = omega (arith, sum-zero f l a.1, a.0 l)

-- what holds of every entry for each u holds for every u of each entry
every-key : (P : ℕ → Entry → Type 0) (l : Entries) → ((u : ℕ) → All (P u) l) → All (λ (x : Entry). (u : ℕ) → P u x) l
every-key P [] a = tt
every-key P (x ∷ l) a = (λ u. (a u).0, every-key P l (λ u. (a u).1))

all-units : (l : Entries) → All (λ (x : Entry). Unit) l
all-units [] = tt
all-units (x ∷ l) = (tt, all-units l)

module _ (t : Terms) (l : Ledger) (s : Invariant t l) where
  unread-cost : (u : ℕ) → any (read_on u) l.list ≡ false
      → sum_of (λ (y : Entry) (b : Entries). is_estimate y.event && eqb y.event.usage u) (λ (y : Entry). usage_cost t l.list y.event) l.list ≡ estimate_cost_of (usage_day t l.list u)
  unread-cost u f = replaced t l.list u (s.once u) f

  day-of-none : standing_cost t l.list ≡ 0 → (u : ℕ) → estimate_cost_of (usage_day t l.list u) ≡ 0
  unfolding standing_cost usage_day
  day-of-none z u = decide (any (read_on u) l.list)
      (λ r. simp r)
      (λ f. omega (arith, z, unread-cost u f, take_out (λ y. is_estimate y.event) (λ y b. y.event.usage) (λ y. usage_cost t l.list y.event) (λ v. any (read_on v) l.list) u f l.list))

  none-of-days : ((u : ℕ) → estimate_cost_of (usage_day t l.list u) ≡ 0) → standing_cost t l.list ≡ 0
  unfolding standing_cost
  none-of-days h = sum-zero _ l.list (all_map _ _ part l.list (every-key Free l.list free))
    where
      Free : ℕ → Entry → Type 0
      Free u x = any (read_on u) l.list ≡ false → (is_estimate x.event && eqb x.event.usage u) ≡ true → usage_cost t l.list x.event ≡ 0

      free : (u : ℕ) → All (Free u) l.list
      free u = decide (any (read_on u) l.list)
          (λ r. all_map (λ (x : Entry). Unit) (Free u) (λ x a f. absurd (true≢false (sym r ∙ f))) l.list (all-units l.list))
          (λ f. all_map _ (Free u) (λ x a g. a) l.list (each-zero (λ (x : Entry). is_estimate x.event && eqb x.event.usage u) (λ (x : Entry). usage_cost t l.list x.event) l.list (unread-cost u f ∙ h u)))

      part : (x : Entry) → ((u : ℕ) → Free u x) → (b : Entries) → cond (is_estimate x.event && not (any (read_on x.event.usage) l.list)) (usage_cost t l.list x.event) 0 ≡ 0
      part x a b = decide (is_estimate x.event)
          (λ i. decide (any (read_on x.event.usage) l.list)
          (λ r. simp (i, r))
          (λ f. simp (i, f) (a x.event.usage f (simp (i, eq-eqb x.event.usage x.event.usage refl)))))
          (λ i. simp i)

  pub standing-none : (standing_cost t l.list ≡ 0) ↔ ((u : ℕ) → estimate_cost_of (usage_day t l.list u) ≡ 0)
  standing-none = (day-of-none, none-of-days)
