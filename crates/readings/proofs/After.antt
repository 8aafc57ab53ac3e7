-- What is read off the totals of an account that stands for a ledger is the ledger's.
-- Assumes nothing.
use mathlib.Core.Path.{◌≡◌, sym, ap, ◌∙◌}
use Prim.Native.Nat.{◌+◌}
use lib.IntN.{ℤ, pos, ◌+ℤ◌}
use Rattle.terms.specs.declared.Terms.{Terms}
use Rattle.ledger.specs.Rules.{Ledger}
use Rattle.ledger.specs.Ledger.{ledger_of}
use Rattle.ledger.specs.Sums as sums
use Rattle.ledger.proofs.Money.{diff-add, diff-sub}
use Rattle.ledger.proofs.Identity.{settled_is}
use Rattle.moves.specs.declared.Totals.{Totals}
use Rattle.account.specs.declared.Account.{Account}
use Rattle.refinement.specs.Agree.{TotalsAgree, Represents}
use Rattle.refinement.specs.Lists.{IsLedgers}
use Rattle.refinement.proofs.Agreed.{Within, within}
use Rattle.refinement.proofs.Lists.{made-represents}
use Rattle.readings.specs.Readings.{balance_of, settled_of, IsBalance, IsSettled}

module _ (t : Terms) (a : Account) (l : Ledger) (q : Represents t a l) where
  abbrev s : Totals
  s = a.totals

  abbrev g : TotalsAgree t s l
  g = q.agree.sums

  abbrev w : Within s
  w = within s q.agree.bounds

  pub balance-reading : balance_of s ≡ l.balance
  unfolding balance_of
  balance-reading = simp (w.credit, w.debit) (sym g.balance)

  pub settled-reading : settled_of s ≡ sums.settled t l.list
  unfolding settled_of
  settled-reading =
      simp (w.credit, w.debit, w.plan, w.standing)
      (rw (← settled_is t l q.invariant, g.balance, ← g.plan, ← g.standing)
      (sym (ap (λ (z : ℤ). z +ℤ pos s.standing) (diff-sub s.credit s.debit s.plan) ∙ diff-add s.credit (s.debit + s.plan) s.standing)))

-- ---- so for every list that made the account

-- what is read off the totals of every account that stands for a ledger, is the ledger's of every list that made it
read-off : {A : Type 0} (x : Totals → A) (f : Terms → Ledger → A) → ((t : Terms) (a : Account) (l : Ledger) → Represents t a l → x a.totals ≡ f t l) → (s : Totals) (a : Account) → a.totals ≡ s → IsLedgers a f (x s)
read-off x f g s a h t es m = ap x (sym h) ∙ g t a (ledger_of t es) (made-represents t es a m)

pub is_plan : (s : Totals) (a : Account) → a.totals ≡ s → IsLedgers a (λ (t : Terms) (l : Ledger). l.plan) s.plan
is_plan = read-off (λ (z : Totals). z.plan) _ (λ t a l q. q.agree.sums.plan)

pub is_service : (s : Totals) (a : Account) → a.totals ≡ s → IsLedgers a (λ (t : Terms) (l : Ledger). l.on) s.on
is_service = read-off (λ (z : Totals). z.on) _ (λ t a l q. q.agree.sums.on)

pub is_estimates : (s : Totals) (a : Account) → a.totals ≡ s → IsLedgers a (λ (t : Terms) (l : Ledger). sums.standing_cost t l.list) s.standing
is_estimates = read-off (λ (z : Totals). z.standing) _ (λ t a l q. q.agree.sums.standing)

pub is_balance : (s : Totals) (r : ℤ) → r ≡ balance_of s → IsBalance s r
is_balance s r e = record { totals = e; ledgers = λ a h t es m. e ∙ read-off balance_of _ balance-reading s a h t es m }

pub is_settled : (s : Totals) (r : ℤ) → r ≡ settled_of s → IsSettled s r
is_settled s r e = record { totals = e; ledgers = λ a h t es m. e ∙ read-off settled_of _ settled-reading s a h t es m }
