-- `Printer::put_bytes` meets its contract. The loop's invariant: the bytes so far. Assumes nothing.
use Rattle.std.proofs.Common.{◌≡◌, take}
use Rattle.printing.proofs.Printer.put_bytes.Given as goal

abbrev pub invariant-loop-i : goal.invariant-loop-i
invariant-loop-i l = take l.i l.part ≡ take l.i l.bytes
