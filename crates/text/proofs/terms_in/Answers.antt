-- `text::terms_in` meets its contract: what is read is taken from the text's front. Assumes nothing.
use Rattle.std.proofs.Common.{rules}
use Rattle.scanner.specs.Scanner.{IsRead}
use Rattle.text.specs.Text.{terms_in}
use Rattle.text.proofs.Laws.{terms_within}
use Rattle.text.proofs.terms_in.Goals as goal

pub returns-clause-within : goal.returns-clause-within
returns-clause-within c =
    let read : IsRead (terms_in c.args.text.now) c.read_terms.result = search rules in
    terms_within _ _ read
