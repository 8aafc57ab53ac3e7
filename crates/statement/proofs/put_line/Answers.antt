-- `statement::put_line` meets its contract. Assumes nothing.
use Rattle.std.proofs.Common.{arith}
use Rattle.printing.proofs.Placed.{kept, printed_then}
use Rattle.statement.specs.Statement.{summary_line}
use Rattle.statement.proofs.put_line.Goals as goal

pub put_usage-requires : goal.put_usage-requires
put_usage-requires c = omega (arith, c.requires, c.put_payments.ensures.1, kept c.put_payments.ensures.0.wrote)

pub put_charges-requires : goal.put_charges-requires
put_charges-requires c =
    omega (arith, c.requires, c.put_payments.ensures.1, kept c.put_payments.ensures.0.wrote, c.put_usage.ensures.1, kept c.put_usage.ensures.0.wrote)

pub returns : goal.returns
unfolding summary_line
returns c =
    let paid = c.put_payments.ensures in
    let used = c.put_usage.ensures in
    let charged = c.put_charges.ensures in
    (printed_then paid.0 (printed_then used.0 charged.0), omega (arith, paid.1, used.1, charged.1))
