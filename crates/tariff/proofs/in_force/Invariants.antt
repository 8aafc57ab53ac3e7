-- `tariff::in_force`: the cells left give the same.
use mathlib.Core.Path.{◌≡◌}
use lib.ListN.{drop}
use Rattle.tariff.specs.Prices.{in_force}
use Rattle.tariff.proofs.in_force.Given as goal

abbrev pub invariant-loop-cell : goal.invariant-loop-cell
invariant-loop-cell l = in_force l.price (drop l.cell-index l.prices) l.day ≡ in_force l.fn.opening_price l.prices l.day
