-- Lists of events: what they make of an account, and what is promised of accounts so made, in the ledger's terms.
use Rattle.std.specs.Prelude.{ℕ, ◌≡◌, true, List, [], ◌∷◌, ◌++◌}
use Rattle.terms.specs.Terms.{valid_terms}
use Rattle.terms.specs.declared.Terms.{Terms}
use Rattle.ledger.specs.declared.Event.{Event}
use Rattle.ledger.specs.Rules.{Ledger}
use Rattle.ledger.specs.Ledger.{ledger_of}
use Rattle.ledger.specs.Calls.{Call, Back, fed, ledger_back}
use Rattle.account.specs.Step.{step_of, open_of}
use Rattle.account.specs.declared.Account.{Account}

-- the account after the events, in order
unfoldable pub account_after : Account → List Event → Account
account_after a [] = a
account_after a (e ∷ es) = account_after (step_of a e).account es

-- their codes, in order
unfoldable pub codes_of : Account → List Event → List ℕ
codes_of a [] = []
codes_of a (e ∷ es) = (step_of a e).code ∷ codes_of (step_of a e).account es

-- The account is the one that this software made of the terms and these events: "every account in these papers .. was made by this software
-- and changed by its calls alone".
pub record Made (t : Terms) (es : List Event) (a : Account) : Type 0 where
  pub valid : valid_terms t ≡ true
  pub account : a ≡ account_after (open_of t).account es

-- x is what f reads off the ledger, for every list of events that made the account
abbrev pub IsLedgers : {A : Type 0} → Account → (Terms → Ledger → A) → A → Type 0
IsLedgers a f x = (t : Terms) (es : List Event) → Made t es a → x ≡ f t (ledger_of t es)

-- A call that gets the account a hands back r and leaves b. For every list of events that made a, r is what the ledger hands back, and the
-- list with the call's events made b.
abbrev pub IsCalled : Account → Call → Back → Account → Type 0
IsCalled a c r b = (t : Terms) (es : List Event) → Made t es a → (r ≡ ledger_back t (ledger_of t es) c) × Made t (es ++ fed c) b
