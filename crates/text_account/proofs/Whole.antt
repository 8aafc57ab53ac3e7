-- From the terms: the account that they open is posted the events after them. Assumes nothing.
use mathlib.Core.Path.{◌≡◌, ap, ◌∙◌}
use mathlib.Core.List.{List}
use Prim.Native.Nat.{ℕ}
use Rattle.std.proofs.Common.{Ok}
use Rattle.terms.specs.declared.Terms.{Terms}
use Rattle.account.specs.Step as step
use Rattle.account.specs.declared.Account.{Account}
use Rattle.refinement.specs.Lists.{account_after}
use Rattle.refinement.proofs.Lists.{opened-valid}
use Rattle.scanner.specs.Scanner.{got}
use Rattle.text.specs.Text.{terms_in}
use Rattle.transcript.proofs.Terms.{by-terms, opened}
use Rattle.text_account.specs.TextAccount.{events_of, TextAccount}

pub makes : (s : List ℕ) (t : Terms) (rest : List ℕ) (a b : Account) → terms_in s ≡ got t rest → step.IsOpened t (Ok a) → b ≡ account_after a (events_of rest) → TextAccount s b
makes s t rest a b e is posted = record {
  terms = t;
  rest = rest;
  made = record {
    valid = opened-valid t a is;
    account = posted ∙ ap (λ (o : step.Opened). account_after o.account (events_of rest)) is;
  };
  printed = λ f. by-terms s f (got t rest) e ∙ opened t f rest a is;
}
