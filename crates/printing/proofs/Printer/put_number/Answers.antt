-- `Printer::put_number` meets its contract. Assumes nothing.
use Rattle.printing.proofs.Numbers.{decimal_is}
use Rattle.printing.proofs.Printer.put_number.Goals as goal

pub returns : goal.returns
returns c = rw (c.as_bytes.ensures.value, c.format.ensures.text, decimal_is c.args.n c.ranges.n.fits) at c.put_signed.ensures
