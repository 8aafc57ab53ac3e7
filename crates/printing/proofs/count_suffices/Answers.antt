use Rattle.printing.proofs.Digits.{count-suffices}
use Rattle.printing.proofs.count_suffices.Goals as goal

pub returns : goal.returns
returns c = count-suffices
