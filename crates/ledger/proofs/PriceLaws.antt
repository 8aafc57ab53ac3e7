-- The laws of the prices over lists of events. Assumes nothing.
use mathlib.Core.Path.{◌≡◌, refl, ap, ◌∙◌}
use mathlib.Core.Bool.{true}
use mathlib.Core.List.{List, [], ◌∷◌}
use Prim.Native.Nat.{ℕ, ◌<◌}
use native.Mathlib.Omega.{arith}
use Rattle.terms.specs.Terms.{valid_terms}
use Rattle.terms.specs.declared.Terms.{Terms}
use Rattle.ledger.specs.declared.Event.{Event}
use Rattle.ledger.specs.Entries.{last_day, price_on}
use Rattle.ledger.specs.Invariant.{Invariant}
use Rattle.ledger.specs.PriceLaws.{PriceLaws}
use Rattle.ledger.specs.Rules.{Ledger}
use Rattle.ledger.specs.Ledger.{opening, accepts, ledger_step, ledger_after, ledger_of}
use Rattle.ledger.proofs.Accepted.{accepted-by}
use Rattle.ledger.proofs.Cases.{decide}
use Rattle.ledger.proofs.Identity.{invariant-valid, invariant-step}
use Rattle.ledger.proofs.Weights.{all_map}
use Rattle.tariff.specs.Tariff.{cost_of}
use Rattle.ledger.proofs.Prices.{price-stays, price-opening}

module _ (t : Terms) where
  invariant-after : (es : List Event) (l : Ledger) → Invariant t l → Invariant t (ledger_after t l es)
  unfolding ledger_after
  invariant-after [] l s = s
  invariant-after (e ∷ es) l s = invariant-after es (ledger_step t l e).ledger (invariant-step t l e s)

  -- one event
  step-stays : (l : Ledger) (e : Event) (u : ℕ) → u < last_day l.list
      → (price_on t (ledger_step t l e).ledger.list u ≡ price_on t l.list u) × (u < last_day (ledger_step t l e).ledger.list)
  unfolding ledger_step last_day
  step-stays l e u h = decide (accepts t l e)
      (λ y. let d : u < e.day = omega (arith, h, (accepted-by t l e y).order) in simp y (price-stays t _ l.list u d, d))
      (λ n. simp n (refl, h))

  after-stays : (es : List Event) (l : Ledger) (u : ℕ) → u < last_day l.list → price_on t (ledger_after t l es).list u ≡ price_on t l.list u
  unfolding ledger_after
  after-stays [] l u h = refl
  after-stays (e ∷ es) l u h = let s = step-stays l e u h in after-stays es (ledger_step t l e).ledger u s.1 ∙ s.0

pub price-laws : (t : Terms) → valid_terms t ≡ true → PriceLaws t
price-laws t v =
    let holds : (es : List Event) → Invariant t (ledger_of t es) = λ es. invariant-after t es opening (invariant-valid t v) in
    record {
      without = price-opening t;
      stays = λ es fs. after-stays t fs (ledger_of t es);
      costs = λ es fs. all_map _ _ (λ x h y. ap (cost_of x.event.wh) (after-stays t fs (ledger_of t es) x.event.usage (h y))) (ledger_of t es).list (holds es).past;
      limits = λ es. (holds es).prices;
      days = λ es. (holds es).days;
    }
