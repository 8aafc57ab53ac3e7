-- `refinement::refinement` meets its contract, which is the theorem of `proofs/Lists.antt`.
use Rattle.refinement.proofs.Lists.{refinement-holds}
use Rattle.refinement.proofs.refinement.Goals as goal

pub returns : goal.returns
returns c = refinement-holds
