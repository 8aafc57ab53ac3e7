-- `transcript::put_event` meets its contract. Assumes nothing.
use mathlib.Core.List.{◌++◌}
use mir.Syntax.{w64}
use mir.ValLaws.{to_z-of_z}
use borrow.Author.Rules.{rules}
use Rattle.scanner.specs.Scanner.{bytes}
use Rattle.printing.specs.Printing.{decimal, signed}
use Rattle.printing.specs.Printer.{Prints}
use Rattle.printing.proofs.Digits.{length-decimal, length-byte, length-signed}
use Rattle.printing.proofs.Placed.{word-last, field-then}
use Rattle.transcript.specs.Transcript.{event_line}
use Rattle.transcript.proofs.put_event.Goals as goal

pub returns : goal.returns
unfolding event_line
returns c =
    let a = c.args in
    let b = c.balance in
    let p = c.plan in
    let sum : Prints _ (bytes " balance=" ++ signed b.result) _ = rw (to_z-of_z w64 b.result (record { sfits = b.type_inv })) at c.put_sum.ensures in
    let code : Prints _ (bytes " code=" ++ decimal a.answer.code) _ = rw c.from.ensures at c.put_field-2.ensures in
    let w =
    field-then (bytes "n=") (decimal a.n) 20 (length-decimal a.n c.ranges.n.fits) c.put_field.ensures 92
    (field-then (bytes " code=") (decimal a.answer.code) 3 (length-byte a.answer.code (search rules)) code 83
    (field-then (bytes " value=") (decimal a.answer.value) 20 (length-decimal a.answer.value (search rules)) c.put_field-3.ensures 56
    (field-then (bytes " balance=") (signed b.result) 20 (length-signed b.result b.type_inv) sum 27
    (field-then (bytes " plan=") (decimal p.result) 20 (length-decimal p.result p.type_inv) c.put_field-4.ensures 1
    (word-last c.put_bytes.ensures))))) c.requires in
    (rw (b.ensures.totals, p.ensures.totals) at w.0, w.1)
