-- The refinement, one event and lists of events, from any account that stands for a ledger; so for every account that this software made.
-- Assumes nothing.
use Prim.Native.Nat.{ℕ}
use native.Mathlib.Omega.{arith}
use mathlib.Core.Path.{◌≡◌, refl, sym, ap, ap₂, ◌∙◌}
use mathlib.Core.Bool.{true}
use Rattle.std.specs.Prelude.{Ok}
use mathlib.Core.List.{List, [], ◌∷◌, ◌++◌}
use Rattle.terms.specs.Terms.{valid_terms, terms_code}
use Rattle.terms.specs.declared.Terms.{Terms}
use Rattle.ledger.specs.declared.Event.{Event}
use Rattle.ledger.specs.Rules.{Ledger}
use Rattle.ledger.specs.Ledger.{opening, ledger_step, ledger_after, ledger_of}
use Rattle.ledger.specs.Calls.{ledger_codes}
use Rattle.ledger.proofs.Cases.{decide}
use Rattle.ledger.proofs.Identity.{invariant-valid, invariant-step}
use Rattle.account.specs.Record.{fresh}
use Rattle.account.specs.Step.{Opened, step_of, IsOpened}
use Rattle.account.specs.declared.Account.{Account}
use Rattle.refinement.specs.Lists.{account_after, codes_of, Made}
use Rattle.refinement.specs.Agree.{Represents, Refinement}
use Rattle.refinement.proofs.Refines.{refines, agree_fresh}

pub represents-fresh : (t : Terms) → valid_terms t ≡ true → Represents t (fresh t) opening
represents-fresh t v = record { agree = agree_fresh t v; invariant = invariant-valid t v }

module _ (t : Terms) where
  represents-step : (a : Account) (l : Ledger) (e : Event) → Represents t a l → Represents t (step_of a e).account (ledger_step t l e).ledger
  represents-step a l e s = record { agree = (refines t a l e s.invariant s.agree).again; invariant = invariant-step t l e s.invariant }

  code_is : (a : Account) (l : Ledger) (e : Event) → Represents t a l → (step_of a e).code ≡ (ledger_step t l e).answer.code
  code_is a l e s = (refines t a l e s.invariant s.agree).code

  pub represents-after : (es : List Event) (a : Account) (l : Ledger) → Represents t a l → Represents t (account_after a es) (ledger_after t l es)
  unfolding account_after ledger_after
  represents-after [] a l s = s
  represents-after (e ∷ es) a l s = represents-after es (step_of a e).account (ledger_step t l e).ledger (represents-step a l e s)

  codes-are : (es : List Event) (a : Account) (l : Ledger) → Represents t a l → codes_of a es ≡ ledger_codes t l es
  unfolding codes_of ledger_codes
  codes-are [] a l s = refl
  codes-are (e ∷ es) a l s = ap₂ (λ (c : ℕ) (r : List ℕ). c ∷ r) (code_is a l e s) (codes-are es (step_of a e).account (ledger_step t l e).ledger (represents-step a l e s))

pub refinement-holds : (t : Terms) → valid_terms t ≡ true → Refinement t
refinement-holds t v = record {
  opens = represents-fresh t v;
  code = code_is t;
  value = λ a l e s. (refines t a l e s.invariant s.agree).value;
  again = represents-step t;
  codes = λ a l es. codes-are t es a l;
  after = λ a l es. represents-after t es a l;
}

-- ---- accounts that this software made

-- terms that `open` makes an account of were within their limits
pub opened-valid : (t : Terms) (a : Account) → IsOpened t (Ok a) → valid_terms t ≡ true
unfolding terms_code
opened-valid t a is = decide (valid_terms t) (λ y. y) (λ f. absurd (let one : ◌≡◌ {A = ℕ} 0 1 = simp f at (ap (λ (x : Opened). x.code) is) in omega arith))

pub made-represents : (t : Terms) (es : List Event) (a : Account) → Made t es a → Represents t a (ledger_of t es)
made-represents t es a m = rw m.account (represents-after t es (fresh t) opening (represents-fresh t m.valid))

after_both : (es fs : List Event) (a : Account) → account_after a (es ++ fs) ≡ account_after (account_after a es) fs
unfolding account_after
after_both [] fs a = refl
after_both (e ∷ es) fs a = after_both es fs (step_of a e).account

-- the longer list makes the account after its last events
pub made_more : (t : Terms) (es fs : List Event) (a b : Account) → Made t es a → b ≡ account_after a fs → Made t (es ++ fs) b
made_more t es fs a b m h = record {
  valid = m.valid;
  account = h ∙ ap (λ (x : Account). account_after x fs) m.account ∙ sym (after_both es fs (fresh t));
}
