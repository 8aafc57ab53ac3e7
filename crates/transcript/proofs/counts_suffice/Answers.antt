use Rattle.transcript.proofs.Counts.{counts-suffice}
use Rattle.transcript.proofs.counts_suffice.Goals as goal

pub returns : goal.returns
returns c = counts-suffice
