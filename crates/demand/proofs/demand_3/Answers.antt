-- `demand::demand_3` meets its contract, which is the theorems of `proofs/Lists.antt`.
use Rattle.demand.proofs.Lists.{demand-3, demand-3-in-c}
use Rattle.demand.proofs.demand_3.Goals as goal

pub returns : goal.returns
returns c = record { rattle = demand-3; in_c = demand-3-in-c }
