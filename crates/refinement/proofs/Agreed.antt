-- An account and a ledger that agree, and an event: what they have in common before it, and the same refusal.
-- Assumes nothing.
use Prim.Native.Nat.{ℕ, ◌+◌}
use native.Mathlib.Omega.{arith}
use mathlib.Core.Path.{◌≡◌, refl, ap, ◌∙◌}
use mathlib.Core.Bool.{true, false, cond, ◌||◌}
use mathlib.Core.List.{◌∷◌}
use lib.ListN.{length}
use lib.Dec.{ltb, leb, eqb}
use lib.IntN.{ℤ, pos, ◌+ℤ◌, ◌-ℤ◌}
use borrow.Author.Tests.{le-leb, eq-eqb}
use Rattle.terms.specs.Terms.{terms_code}
use Rattle.terms.specs.declared.Terms.{Terms}
use Rattle.ledger.specs.declared.Event.{Event}
use Rattle.ledger.specs.Event.{is_estimate, is_read, in_limits}
use Rattle.ledger.specs.Entries.{usage_cost, last_day, usage_day, estimate_cost_of}
use Rattle.ledger.specs.Rules.{Ledger, max_payments}
use Rattle.ledger.specs.Sums.{standing_cost}
use Rattle.ledger.specs.Ledger.{Outcome, refusal, ledger_step}
use Rattle.ledger.proofs.Accepted.{Accepted, accepted-by}
use Rattle.ledger.specs.Invariant.{All, UsedBefore, Invariant}
use Rattle.ledger.proofs.Money.{diff, diff-add, diff-sub}
use Rattle.ledger.proofs.Identity.{past-then, standing-then}
use Rattle.moves.specs.Moves.{Moved, max_total, is_account, early_code, refusing}
use Rattle.moves.specs.declared.Totals.{Totals}
use Rattle.moves.proofs.Early.{Early, early}
use Rattle.account.specs.Step.{Stepped, cells_of, posted}
use Rattle.account.specs.declared.Account.{Account}
use Rattle.refinement.specs.Agree.{Bounds, Agree}
use Rattle.refinement.proofs.Refusals.{Passes, refuses}

-- the same answer, and they agree again
pub record Same (t : Terms) (p : Stepped) (o : Outcome) : Type 0 where
  pub code : p.code ≡ o.answer.code
  pub value : p.value ≡ o.answer.value
  pub again : Agree t p.account o.ledger

-- The move x of the event, written into the account, is what the ledger makes of it.
pub record Refines (a : Account) (l : Ledger) (e : Event) (x : Moved) : Type 0 where
  pub same : Same a.terms (posted a e x) (ledger_step a.terms l e)

-- no total of an account is past the largest
pub record Within (s : Totals) : Type 0 where
  pub credit : leb s.credit max_total ≡ true
  pub debit : leb s.debit max_total ≡ true
  pub plan : leb s.plan max_total ≡ true
  pub standing : leb s.standing max_total ≡ true

pub within : (s : Totals) → Bounds s → Within s
within s b = record {
  credit = le-leb _ _ (omega (arith, b.credit, b.full));
  debit = le-leb _ _ (omega (arith, b.debit, b.full));
  plan = le-leb _ _ (omega (arith, b.plan, b.full));
  standing = le-leb _ _ (omega (arith, b.standing, b.full));
}

-- a record that agrees with a ledger is an account
pub is-account : (t : Terms) (a : Account) (l : Ledger) → Agree t a l → is_account a.terms a.totals ≡ true
unfolding is_account terms_code
is-account t a l g =
    let w = within a.totals g.bounds in
    simp (g.terms, g.valid, w.credit, w.debit, w.plan, w.standing, le-leb a.totals.count max_payments g.bounds.count)

module _ (a : Account) (l : Ledger) (g : Agree a.terms a l) where
  abbrev t : Terms
  t = a.terms

  -- the account's first checks are the ledger's
  pub early-is : (e : Event) → early_code t a.totals e
      ≡ cond (ltb e.day (last_day l.list) || ltb 399 e.day) 2 (cond (in_limits e) (cond (leb 4096 (length l.list)) 4 0) 3)
  unfolding early_code
  early-is e = rw (is-account t a l g, g.sums.last, g.sums.events) refl

  -- B with a credit, and with a debit
  pub raised : (n : ℕ) → l.balance +ℤ pos n ≡ diff (a.totals.credit + n) a.totals.debit
  raised n = ap (λ (x : ℤ). x +ℤ pos n) g.sums.balance ∙ diff-add a.totals.credit a.totals.debit n

  pub lowered : (n : ℕ) → l.balance -ℤ pos n ≡ diff a.totals.credit (a.totals.debit + n)
  lowered n = ap (λ (x : ℤ). x -ℤ pos n) g.sums.balance ∙ diff-sub a.totals.credit a.totals.debit n

  module _ (e : Event) where
    pub refused-same : (k : ℕ) → refusal t l e ≡ k → eqb k 0 ≡ false → Refines a l e (refusing (cells_of a e) k)
    refused-same k h f = record { same = rw (refuses t l e k h f) (record { code = refl; value = refl; again = simp f g }) }

    module _ (h : Passes l e) where
      pub passed : early_code t a.totals e ≡ 0
      passed = early-is e ∙ simp (h.days, h.limits, h.room)

      pub facts : Early t a.totals e
      facts = early t a.totals e passed

      module _ (s : Invariant t l) (z : refusal t l e ≡ 0) where
        pub taken : Accepted t l e
        taken = accepted-by t l e (eq-eqb (refusal t l e) 0 z)

        -- usage days are before the event's
        pub past : All (UsedBefore e.day) l.list
        past = past-then t l e 0 s taken

        -- the standing estimates after the event
        pub standing-is : (p : ℕ) → standing_cost t (record { event = e; part = p } ∷ l.list) + cond (is_read e) (estimate_cost_of (usage_day t l.list e.usage)) 0
            ≡ standing_cost t l.list + cond (is_estimate e) (usage_cost t l.list e) 0
        standing-is p = standing-then t l e p s taken
