use Rattle.reader.proofs.Whole.{whole}
use Rattle.reader.proofs.reads_whole.Goals as goal

pub returns : goal.returns
returns c = whole
