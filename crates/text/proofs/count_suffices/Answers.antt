use Rattle.text.proofs.Breaks.{suffices}
use Rattle.text.proofs.count_suffices.Goals as goal

pub returns : goal.returns
returns c = suffices
