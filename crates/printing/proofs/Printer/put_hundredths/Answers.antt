-- `Printer::put_hundredths` meets its contract. Assumes nothing.
use Rattle.std.proofs.Common.{◌/◌, arith}
use Rattle.printing.specs.Printing.{hundredths}
use Rattle.printing.proofs.Numbers.{decimal_is}
use Rattle.printing.proofs.Printer.put_hundredths.Goals as goal

pub returns : goal.returns
unfolding hundredths
returns c =
    rw (c.as_bytes-whole.ensures.value, c.format.ensures.text, decimal_is (c.args.n / 100) (omega (arith, c.ranges.n.fits)), c.digit.ensures, c.digit-2.ensures) at c.put_both.ensures
