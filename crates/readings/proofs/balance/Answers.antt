use Rattle.std.proofs.Common.{arith}
use Rattle.std.proofs.lemmas.Bool.Decides.{leb_tells}
use Rattle.readings.specs.Readings.{balance_of}
use Rattle.readings.proofs.After.{is_balance}
use Rattle.readings.proofs.balance.Goals as goal

pub returns-then-s-le-MAX_TOTAL-2 : goal.returns-then-s-le-MAX_TOTAL-2
unfolding balance_of
returns-then-s-le-MAX_TOTAL-2 c = is_balance _ _ (grind (arith, leb_tells))

pub returns-else-s-le-MAX_TOTAL : goal.returns-else-s-le-MAX_TOTAL
unfolding balance_of
returns-else-s-le-MAX_TOTAL c = is_balance _ _ (let h = c.else-s-le-MAX_TOTAL.either in grind (arith, leb_tells))
