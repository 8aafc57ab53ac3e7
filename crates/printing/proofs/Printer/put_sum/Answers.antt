-- `Printer::put_sum` meets its contract: the sign is that of the definition. Assumes nothing.
use Rattle.std.proofs.Common.{◌≡◌, ◌++◌}
use Rattle.std.specs.Prelude.{nat_abs}
use mir.Syntax.{w64}
use mir.ValLaws.{to_z-of_z}
use Rattle.printing.specs.Printing.{decimal, signed}
use Rattle.printing.proofs.Numbers.{minus, no-minus}
use Rattle.printing.proofs.Printer.put_sum.Goals.{then-z-lt0, else-z-lt0}
use Rattle.printing.proofs.Printer.put_sum.Goals as goal

pub returns : goal.returns
returns c =
    let e = to_z-of_z w64 c.args.z c.ranges.z in
    let spelt : c.if-z-lt0.sign.now ++ decimal (nat_abs c.args.z) ≡ signed c.args.z = elim c.if-z-lt0.branch [
      | then-z-lt0 w ↦ rw w.sign-is (minus c.args.z (rw e at w.if-z-lt0.true))
      | else-z-lt0 w ↦ rw w.sign-is (no-minus c.args.z (rw e at w.if-z-lt0.false))
    ] in
    rw (c.unsigned_abs.ensures.value, e, spelt) at c.put_number.ensures
