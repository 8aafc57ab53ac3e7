use Rattle.std.proofs.Common.{◌+◌, get_or, ap, true≢false, arith}
use Rattle.ledger.specs.Refusals.{average_or_0}
use Rattle.month_page.specs.declared.Line.TheVariants.{Usage, Kind}
use Rattle.month_page.proofs.Lays.{stands, sums-within}
use Rattle.month_page.proofs.figure_lines.Goals as goal

pub returns-clause-stand : goal.returns-clause-stand
returns-clause-stand c =
    let f = c.args.figures in
    let within = sums-within f.charges c.requires.charges in
    let usage = stands (Usage (f.metered.wh + f.estimated.wh) (f.metered.cost + f.estimated.cost)) (λ n e. omega (arith, c.requires.cost, ap average_or_0 e)) in
    let three = stands (Kind 3 (get_or f.charges 2 0)) (λ n e. omega (arith, within.0, ap average_or_0 e)) in
    let four = stands (Kind 4 (get_or f.charges 3 0)) (λ n e. omega (arith, within.1, ap average_or_0 e)) in
    let five = stands (Kind 5 (get_or f.charges 4 0)) (λ n e. omega (arith, within.2, ap average_or_0 e)) in
    (usage, (three, (four, (five, (λ n a e. absurd (true≢false a), tt)))))
