-- `text_account::account_of` meets its contract. Assumes nothing.
use Rattle.std.proofs.Common.{◌≡◌, ◌∙◌, Err, rules}
use Rattle.scanner.specs.Scanner.{got}
use Rattle.text.specs.Text.{terms_in}
use Rattle.transcript.proofs.Terms.{by-terms, refused}
use Rattle.text_account.proofs.Whole.{makes}
use Rattle.text_account.proofs.account_of.Goals as goal

pub returns-in_err-account : goal.returns-in_err-account
returns-in_err-account c =
    let e : terms_in c.args.text.now ≡ got c.in_ok-terms.terms c.in_ok-terms.rest.now = search rules in
    let r = c.in_err-account.field-0.0 in
    let is : c.from_residual-in_err-account.result ≡ Err r = search rules in
    rw is (λ f. by-terms _ f _ e ∙ refused _ f _ r c.in_err-account.ensures)

pub returns : goal.returns
returns c =
    let e : terms_in c.args.text.now ≡ got c.in_ok-terms.terms c.in_ok-terms.rest.now = search rules in
    makes _ _ _ _ _ e c.in_ok-account.ensures c.post_events.ensures
