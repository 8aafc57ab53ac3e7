-- `transcript::put_last_line` meets its contract. Assumes nothing.
use mathlib.Core.List.{◌++◌}
use mir.Syntax.{w64}
use mir.ValLaws.{to_z-of_z}
use Rattle.scanner.specs.Scanner.{bytes}
use Rattle.printing.specs.Printing.{decimal, signed}
use Rattle.printing.specs.Printer.{Prints}
use Rattle.printing.proofs.Digits.{length-decimal, length-signed}
use Rattle.printing.proofs.Placed.{word-last, field-then}
use Rattle.transcript.specs.Transcript.{last_line}
use Rattle.transcript.proofs.put_last_line.Goals as goal

pub returns : goal.returns
unfolding last_line
returns c =
    let b = c.settled in
    let p = c.estimates in
    let sum : Prints _ (bytes "settled=" ++ signed b.result) _ = rw (to_z-of_z w64 b.result (record { sfits = b.type_inv })) at c.put_sum.ensures in
    let w =
    field-then (bytes "settled=") (signed b.result) 20 (length-signed b.result b.type_inv) sum 32
    (field-then (bytes " estimates=") (decimal p.result) 20 (length-decimal p.result p.type_inv) c.put_field.ensures 1
    (word-last c.put_bytes.ensures)) c.requires in
    rw (b.ensures.totals, p.ensures.totals) at w.0
