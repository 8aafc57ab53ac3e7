-- When a disconnect is granted.
-- Assumes nothing.
use mathlib.Core.Path.{◌≡◌, refl, sym, ◌∙◌}
use mathlib.Core.Bool.{true, false, not, ◌&&◌}
use mathlib.Core.Logic.{◌↔◌}
use Prim.Native.Nat.{ℕ}
use lib.Dec.{ltb, leb}
use lib.IntN.{ℤ, pos, negsuc}
use lib.Signed.{lt_z, le_z}
use borrow.Author.Tests.{ltb-true, ltb-false, lt-leb, le-leb, eqb-true, eq-eqb, not-true, not-false}
use Rattle.std.proofs.lemmas.Bool.{or_parts}
use Rattle.terms.specs.declared.Terms.{Terms}
use Rattle.ledger.specs.declared.Event.{Event}
use Rattle.ledger.specs.Event.{is_disconnect, is_connect, in_limits}
use Rattle.ledger.specs.Entries.{warned}
use Rattle.ledger.specs.Rules.{Ledger, day_refused, is_full, MayCut, refusals, first_of}
use Rattle.ledger.specs.Ledger.{accepts, refusal, ledger_step}
use Rattle.ledger.proofs.Cases.{decide}
use Rattle.ledger.proofs.Accepted.{Accepted, accepted-by}

-- the answer's code is the table's number
pub code_is : (t : Terms) (l : Ledger) (e : Event) → (ledger_step t l e).answer.code ≡ refusal t l e
unfolding ledger_step
code_is t l e = decide (accepts t l e) (λ y. simp y (sym (eqb-true (refusal t l e) 0 y))) (λ n. simp n)

below-not : (a b : ℕ) → ltb a b ≡ not (leb b a)
below-not a b = decide (ltb a b) (λ y. simp (y, lt-leb b a (ltb-true a b y))) (λ n. simp (n, le-leb b a (ltb-false a b n)))

-- B < k is not k ≤ B
pub lt_z-not : (a b : ℤ) → lt_z a b ≡ not (le_z b a)
lt_z-not (pos a) (pos b) = below-not a b
lt_z-not (pos a) (negsuc b) = refl
lt_z-not (negsuc a) (pos b) = refl
lt_z-not (negsuc a) (negsuc b) = below-not b a

grounds-of : (t : Terms) (l : Ledger) (e : Event) → e.sort ≡ 10 → Accepted t l e → MayCut t l e
unfolding refusals
grounds-of t l e k a =
    let y : is_disconnect e ≡ true = eq-eqb e.sort 10 k in
    let b : le_z (pos t.cutoff) l.balance ≡ false = simp y at (or_parts (is_disconnect e && le_z (pos t.cutoff) l.balance) (is_connect e && lt_z l.balance (pos t.connect)) (a.rule 12)).0 in (
      not-false l.on (simp y at (or_parts (is_disconnect e && not l.on) (is_connect e && l.on) (a.rule 11)).0),
      lt_z-not l.balance (pos t.cutoff) ∙ rw b,
      not-false (warned l.list e.day) (simp y at (a.rule 13)),
      simp y at (a.rule 14),
    )

pub disconnect-granted : (t : Terms) (l : Ledger) (e : Event) → e.sort ≡ 10
    → day_refused l e ≡ false → is_full l ≡ false → ((ledger_step t l e).answer.code ≡ 0) ↔ MayCut t l e
unfolding refusal refusals first_of in_limits
disconnect-granted t l e k day room = (
  (λ c. grounds-of t l e k (accepted-by t l e (eq-eqb (refusal t l e) 0 (sym (code_is t l e) ∙ c)))),
  (λ g. let b : le_z (pos t.cutoff) l.balance ≡ false = not-true _ (sym (lt_z-not l.balance (pos t.cutoff)) ∙ g.1) in
      code_is t l e ∙ rw k (simp (day, room, g.0, b, g.2, g.3))),
)
