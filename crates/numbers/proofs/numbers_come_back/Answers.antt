use Rattle.numbers.proofs.Cells.{come-back}
use Rattle.numbers.proofs.numbers_come_back.Goals as goal

pub returns : goal.returns
returns c = come-back
