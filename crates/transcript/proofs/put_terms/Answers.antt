-- `transcript::put_terms` meets its contract. Assumes nothing.
use Rattle.std.proofs.Common.{◌≡◌, rules}
use Rattle.transcript.proofs.Whole.{no-totals, refusal-line}
use Rattle.transcript.proofs.put_terms.Goals as goal

pub returns : goal.returns
returns c =
    let none : c.default.result ≡ no-totals = search rules in
    rw (none, refusal-line c.args.code) at c.put_event.ensures.0
