use Rattle.std.proofs.Common.{arith}
use Rattle.std.proofs.lemmas.Bool.Decides.{nat_tests}
use Rattle.ledger.specs.Months.{average_of}
use Rattle.months.proofs.average.Goals as goal

pub returns-clause-value : goal.returns-clause-value
unfolding average_of
returns-clause-value c = grind (arith, nat_tests, c.checked_div.ensures)
