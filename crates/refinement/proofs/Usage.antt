-- Estimates and reads refine the ledger's.
-- Assumes nothing.
use Prim.Native.Nat.{ℕ, ◌+◌, ◌≤◌, ◌<◌}
use native.Mathlib.Omega.{arith}
use native.Mathlib.Nat.{mod-eq_of_lt}
use mathlib.Core.Path.{◌≡◌, refl, sym, ap, ◌∙◌, subst}
use mathlib.Core.Bool.{Bool, true, false, ◌||◌}
use mathlib.Core.Logic.{inl, inr}
use lib.ListN.{get_or}
use lib.Dec.{leb, eqb}
use lib.IntN.{ℤ, pos, ◌-ℤ◌}
use borrow.Author.Tests.{leb-false, le-ltb, not-true}
use Rattle.tariff.specs.Tariff.{cost_of}
use Rattle.terms.specs.declared.Terms.{Terms}
use Rattle.ledger.specs.declared.Event.{Event}
use Rattle.ledger.specs.Entries.{usage_cost, any, read_on, estimate_on, price_on, UsageDay, blank, estimated, metered, usage_day, is_blank, is_metered, estimate_cost_of}
use Rattle.ledger.specs.Rules.{Ledger}
use Rattle.ledger.specs.Ledger.{effect_of, estimate_effect, read_effect, refusal}
use Rattle.ledger.specs.Invariant.{Invariant}
use Rattle.std.proofs.lemmas.Bool.{or_parts}
use Rattle.ledger.proofs.Money.{diff, diff-sub}
use Rattle.ledger.proofs.Identity.{blank-is}
use Rattle.moves.specs.Moves.{Moved, cells_before, refusing, by_usage, usage_price, wh_cost, estimate_of, estimated_of, read_of, metered_of}
use Rattle.moves.specs.declared.Usage.{Usage}
use Rattle.moves.proofs.Arms.{branch}
use Rattle.moves.proofs.Early.{cost-on}
use Rattle.account.specs.Record.{blank_day}
use Rattle.account.specs.Step.{usage_at, cells_of}
use Rattle.account.specs.declared.Account.{Account}
use Rattle.refinement.specs.Agree.{Agree, recorded_usage}
use Rattle.refinement.proofs.Fields.{usage-estimated, usage-metered}
use Rattle.refinement.proofs.Refusals.{Passes, estimate-code, read-code}
use Rattle.refinement.proofs.Keeps.{days-set}
use Rattle.refinement.proofs.Agreed.{Refines, refused-same, raised, lowered, facts, past, standing-is}
use Rattle.refinement.proofs.Cells.{accepted}

module _ (a : Account) (l : Ledger) (e : Event) (g : Agree a.terms a l) (s : Invariant a.terms l) (h : Passes l e) where
  abbrev t : Terms
  t = a.terms

  abbrev c : Moved
  c = cells_of a e

  -- the usage day's state in the ledger
  abbrev state : UsageDay
  state = usage_day t l.list e.usage

  -- the event's sort against another's number
  sort-is : {n : ℕ} → e.sort ≡ n → (m : ℕ) {b : Bool} → eqb n m ≡ b → eqb e.sort m ≡ b
  sort-is k m q = ap (λ (x : ℕ). eqb x m) k ∙ q

  module _ (f : leb e.day e.usage ≡ false) where
    used : e.usage < 400
    used = omega (arith, leb-false e.day e.usage f, (facts a l g e h).passed.day)

    -- the price in force
    price-is : usage_price t a.prices e ≡ price_on t l.list e.usage
    price-is = g.kept.prices.force e.usage used

    price-most : usage_price t a.prices e ≤ 99999
    price-most = rw price-is (s.prices e.usage).1

    cost-is : wh_cost t a.prices e ≡ usage_cost t l.list e
    cost-is = ap (cost_of e.wh) price-is

    usage-is : usage_at e ≡ e.usage
    usage-is = mod-eq_of_lt used

    state-is : recorded_usage state ≡ c.day.usage
    unfolding cells_before
    state-is = sym (ap (λ (i : ℕ). (get_or a.days i blank_day).usage) usage-is ∙ g.kept.days e.usage used)

    estimating : e.sort ≡ 5 → is_blank state ≡ true → Refines a l e (estimated_of c e (wh_cost t a.prices e))
    unfolding effect_of estimated_of estimate_effect cells_before
    estimating k y =
        let z : refusal t l e ≡ 0 = estimate-code t l e h k ∙ simp (f, y) in
        let free : (any (read_on e.usage) l.list || any (estimate_on e.usage) l.list) ≡ false = not-true _ (sym (blank-is t l.list e.usage) ∙ y) in
        let most = cost-on t a.totals e (usage_price t a.prices e) (facts a l g e h) (inl k) price-most in
        accepted a l e g s h z 5 k _ refl (estimate_effect t l e) (
          rw usage-is (days-set t a e 0 l.list g.kept (past a l g e h s z) (estimated e.wh (wh_cost t a.prices e)) g.sizes.days used (usage-estimated e 0 l.list t (rw k refl) (rw k refl) (or_parts _ _ free).0 ∙ ap (estimated e.wh) (sym cost-is))),
          omega (arith, g.sums.standing, simp (sort-is k 6 refl, sort-is k 5 refl) at (standing-is a l g e h s z 0), cost-is),
          omega (arith, g.bounds.standing, most),
        )
        (rw k refl) refl cost-is
        (record {
          balance = lowered a l g (usage_cost t l.list e) ∙ ap (λ (x : ℕ). diff a.totals.credit (a.totals.debit + x)) (sym cost-is);
          plan = g.sums.plan;
          on = g.sums.on;
          credit-most = omega (arith, g.bounds.credit);
          debit-most = omega (arith, g.bounds.debit, most);
          plan-most = omega (arith, g.bounds.plan);
        })

    reading : (old : ℕ) → e.sort ≡ 6 → is_metered state ≡ false → old ≡ estimate_cost_of state → old ≤ 10000000 → Refines a l e (metered_of c e (wh_cost t a.prices e) old)
    unfolding effect_of metered_of read_effect cells_before
    reading old k y q small =
        let z : refusal t l e ≡ 0 = read-code t l e h k ∙ simp (f, y) in
        let most = cost-on t a.totals e (usage_price t a.prices e) (facts a l g e h) (inr k) price-most in
        accepted a l e g s h z 6 k _ refl (read_effect t l e) (
          rw usage-is (days-set t a e 0 l.list g.kept (past a l g e h s z) (metered e.wh (wh_cost t a.prices e)) g.sizes.days used (usage-metered e 0 l.list t (rw k refl) ∙ ap (metered e.wh) (sym cost-is))),
          omega (arith, g.sums.standing, simp (sort-is k 6 refl, sort-is k 5 refl) at (standing-is a l g e h s z 0), q),
          omega (arith, g.bounds.standing),
        )
        (rw k refl) refl cost-is
        (record {
          balance = ap (λ (x : ℤ). x -ℤ pos (usage_cost t l.list e)) (raised a l g (estimate_cost_of state))
              ∙ diff-sub (a.totals.credit + estimate_cost_of state) a.totals.debit (usage_cost t l.list e)
              ∙ ap (λ (x : ℕ). diff (a.totals.credit + x) (a.totals.debit + usage_cost t l.list e)) (sym q)
              ∙ ap (λ (x : ℕ). diff (a.totals.credit + old) (a.totals.debit + x)) (sym cost-is);
          plan = g.sums.plan;
          on = g.sums.on;
          credit-most = omega (arith, g.bounds.credit, small);
          debit-most = omega (arith, g.bounds.debit, most);
          plan-most = omega (arith, g.bounds.plan);
        })

    -- by the day's state
    estimate-by : e.sort ≡ 5 → (d : UsageDay) → state ≡ d → Refines a l e (by_usage (recorded_usage d) (estimated_of c e (wh_cost t a.prices e)) (λ (old : ℕ). refusing c 8) (refusing c 8))
    estimate-by k blank q = estimating k (ap is_blank q)
    estimate-by k (estimated wh cost) q = refused-same a l g e 8 (estimate-code t l e h k ∙ simp (f, q)) refl
    estimate-by k (metered wh cost) q = refused-same a l g e 8 (estimate-code t l e h k ∙ simp (f, q)) refl

    read_by : e.sort ≡ 6 → (d : UsageDay) → state ≡ d → Refines a l e (by_usage (recorded_usage d) (metered_of c e (wh_cost t a.prices e) 0) (λ (old : ℕ). metered_of c e (wh_cost t a.prices e) old) (refusing c 8))
    read_by k blank q = reading 0 k (ap is_metered q) (sym (ap estimate_cost_of q)) (omega arith)
    read_by k (estimated wh cost) q = reading cost k (ap is_metered q) (sym (ap estimate_cost_of q)) (rw q at (g.kept.held e.usage))
    read_by k (metered wh cost) q = refused-same a l g e 8 (read-code t l e h k ∙ simp (f, q)) refl

  pub estimates : e.sort ≡ 5 → Refines a l e (estimate_of t c a.prices e)
  unfolding estimate_of
  estimates k = branch (Refines a l e) (leb e.day e.usage)
      (λ y. refused-same a l g e 7 (estimate-code t l e h k ∙ simp y) refl)
      (λ f. rw (le-ltb 99999 (usage_price t a.prices e) (price-most f)) (subst (λ (u : Usage). Refines a l e (by_usage u (estimated_of c e (wh_cost t a.prices e)) (λ (old : ℕ). refusing c 8) (refusing c 8))) (state-is f) (estimate-by f k state refl)))

  pub reads : e.sort ≡ 6 → Refines a l e (read_of t c a.prices e)
  unfolding read_of
  reads k = branch (Refines a l e) (leb e.day e.usage)
      (λ y. refused-same a l g e 7 (read-code t l e h k ∙ simp y) refl)
      (λ f. rw (le-ltb 99999 (usage_price t a.prices e) (price-most f)) (subst (λ (u : Usage). Refines a l e (by_usage u (metered_of c e (wh_cost t a.prices e) 0) (λ (old : ℕ). metered_of c e (wh_cost t a.prices e) old) (refusing c 8))) (state-is f) (read_by f k state refl)))
