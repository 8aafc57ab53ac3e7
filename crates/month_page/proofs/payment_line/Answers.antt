use Rattle.std.proofs.Common.{Fits, w32, rules, arith}
use Rattle.month_page.proofs.Payments.{paid-stands}
use Rattle.month_page.proofs.payment_line.Goals as goal

pub returns-then-is_kept-clause-stands : goal.returns-then-is_kept-clause-stands
returns-then-is_kept-clause-stands c =
    let fits : Fits w32 c.args.p.amount = search rules in
    paid-stands c.in_ok-date.date c.args.p.amount (omega (arith, fits))
