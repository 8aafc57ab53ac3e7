-- Each payment of the days counts as kept or as reversed; another comes to nothing.
use Rattle.std.proofs.Common.{arith}
use Rattle.std.proofs.lemmas.Bool.Decides.{nat_tests}
use Rattle.calendar.specs.Calendar.{total}
use Rattle.months.specs.Summary.{payments_by}
use Rattle.months.proofs.paid_in.Goals as goal
use Rattle.months.proofs.paid_in.Goals.{then-contains+then-p, then-contains+else-p, else-contains}

pub loop-number-preserved : goal.loop-number-preserved
unfolding payments_by total
loop-number-preserved g c = elim c.if-contains.branch [
  | then-contains+then-p w ↦ grind (arith, nat_tests)
  | then-contains+else-p w ↦ grind (arith, nat_tests)
  | else-contains w ↦ grind (arith, nat_tests)
]
