-- `diagnostics::put_message` meets its contract. Assumes nothing.
use Rattle.std.proofs.Common.{◌++◌, refl, rules, sym, add-zero, arith}
use Rattle.scanner.specs.Scanner.{bytes}
use Rattle.printing.specs.Printing.{decimal}
use Rattle.printing.specs.Printer.{Prints}
use Rattle.printing.proofs.Digits.{length-decimal}
use Rattle.printing.proofs.Laws.{over_none}
use Rattle.printing.proofs.Placed.{printed, word-last, field-then}
use Rattle.diagnostics.specs.Diagnostics.{message_of}
use Rattle.diagnostics.proofs.put_message.Goals as goal

pub returns-in-Sound : goal.returns-in-Sound
unfolding message_of
returns-in-Sound c =
    let p = c.args.page.now in
    rw c.in-Sound.is (record {
      same = refl;
      wrote = record { buffer = sym (over_none p.out.now p.at); next = sym (add-zero p.at); room = omega (arith, c.requires) };
    })

pub returns-in-TooLong : goal.returns-in-TooLong
unfolding message_of
returns-in-TooLong c = rw c.in-TooLong.is (printed c.put_bytes.ensures (omega (arith, c.requires)))

pub returns-in-Terms : goal.returns-in-Terms
unfolding message_of
returns-in-Terms c = rw c.in-Terms.is (printed c.put_bytes-in-Terms.ensures (omega (arith, c.requires)))

pub returns-in-Event : goal.returns-in-Event
unfolding message_of
returns-in-Event c =
    let n = c.in-Event.ordinal in
    let l = c.in-Event.line in
    let line : Prints _ (bytes "line " ++ decimal l) _ = rw c.from.ensures at c.put_field.ensures in
    let event : Prints _ (bytes ": event " ++ decimal n) _ = rw c.from-in-Event.ensures at c.put_field-in-Event.ensures in
    let w =
    field-then (bytes "line ") (decimal l) 20 (length-decimal l (search rules)) line 45
    (field-then (bytes ": event ") (decimal n) 20 (length-decimal n (search rules)) event 17
    (word-last c.put_bytes-in-Event.ensures)) c.requires in
    rw c.in-Event.is w.0
