use Rattle.std.proofs.Common.{arith}
use Rattle.std.proofs.lemmas.Grind.{common_steps}
use Rattle.std.proofs.lemmas.Bool.Decides.{leb_tells}
use Rattle.readings.specs.Readings.{settled_of}
use Rattle.readings.proofs.After.{is_settled}
use Rattle.readings.proofs.settled.Goals as goal

pub returns-then-is_in_range : goal.returns-then-is_in_range
unfolding settled_of
returns-then-is_in_range c = is_settled _ _ (grind (arith, common_steps, leb_tells))
