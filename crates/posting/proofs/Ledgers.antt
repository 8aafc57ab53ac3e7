-- What the posting calls leave is the ledger's.
-- Assumes nothing.
use Prim.Native.Nat.{ℕ}
use mathlib.Core.Path.{◌≡◌, refl, ap}
use mathlib.Core.List.{List, [], ◌∷◌, ◌++◌}
use lib.ListN.{length, drop}
use lib.Dec.{ltb}
use Rattle.terms.specs.declared.Terms.{Terms}
use Rattle.ledger.specs.declared.Event.{Event}
use Rattle.ledger.specs.declared.Answer.{Answer}
use Rattle.ledger.specs.Rules.{Ledger}
use Rattle.ledger.specs.Ledger.{ledger_step, ledger_of}
use Rattle.ledger.specs.Calls.{single, row, answered, written, fed, ledger_back}
use Rattle.ledger.proofs.Cases.{decide}
use Rattle.account.specs.Step.{step_of}
use Rattle.account.specs.declared.Account.{Account}
use Rattle.refinement.specs.Lists.{account_after, IsCalled}
use Rattle.refinement.specs.Agree.{Represents}
use Rattle.refinement.proofs.Lists.{refinement-holds, made-represents, made_more}
use Rattle.posting.specs.Posting.{answer_of, Posts, row_of, PostsRow}

-- ---- from any account that stands for a ledger

module _ (t : Terms) (a : Account) (l : Ledger) (s : Represents t a l) where
  pub answer_is : (e : Event) → answer_of (step_of a e) ≡ (ledger_step t l e).answer
  answer_is e = λ i. record { code = (refinement-holds t s.agree.valid).code a l e s i; value = (refinement-holds t s.agree.valid).value a l e s i }

  pub answer_back : (e : Event) → answered (answer_of (step_of a e)) ≡ ledger_back t l (single e)
  unfolding ledger_back
  answer_back e = ap answered (answer_is e)

  pub row_back : (es : List Event) (buffer : List ℕ) → written (row_of a es buffer).answer (row_of a es buffer).bytes ≡ ledger_back t l (row es buffer)
  unfolding row_of ledger_back
  row_back es buffer = decide (ltb (length buffer) (length es))
      (λ y. simp y)
      (λ n. simp n (ap (λ (k : List ℕ). written 0 (k ++ drop (length es) buffer)) ((refinement-holds t s.agree.valid).codes a l es s)))

-- the events that a row is fed lead to its account
pub row-account : (a : Account) (es : List Event) (buffer : List ℕ) → (row_of a es buffer).account ≡ account_after a (fed (row es buffer))
unfolding row_of fed account_after
row-account a es buffer = decide (ltb (length buffer) (length es)) (λ y. simp y) (λ n. simp n)

-- ---- so for every list that made the account

pub posts : (a : Account) (e : Event) (b : Account) (r : Answer) → b ≡ (step_of a e).account → r ≡ answer_of (step_of a e) → Posts a e b r
unfolding fed account_after
posts a e b r h g = record { account = h; answer = g; ledgers = rw (h, g) called }
  where
    called : IsCalled a (single e) (answered (answer_of (step_of a e))) (step_of a e).account
    called t es m = (answer_back t a (ledger_of t es) (made-represents t es a m) e, made_more t es (e ∷ []) a (step_of a e).account m refl)

pub posts-row : (a : Account) (es : List Event) (buffer : List ℕ) (b : Account) (bytes : List ℕ) (r : ℕ)
    → b ≡ (row_of a es buffer).account → bytes ≡ (row_of a es buffer).bytes → r ≡ (row_of a es buffer).answer → PostsRow a es buffer b bytes r
posts-row a es buffer b bytes r h g k = record { account = h; bytes = g; answer = k; ledgers = rw (h, g, k) called }
  where
    called : IsCalled a (row es buffer) (written (row_of a es buffer).answer (row_of a es buffer).bytes) (row_of a es buffer).account
    called t fs m = (row_back t a (ledger_of t fs) (made-represents t fs a m) es buffer, made_more t fs (fed (row es buffer)) a (row_of a es buffer).account m (row-account a es buffer))
