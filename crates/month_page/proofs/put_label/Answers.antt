use Rattle.std.proofs.Common.{arith, rules}
use Rattle.scanner.specs.Scanner.{bytes}
use Rattle.printing.specs.Printing.{decimal}
use Rattle.printing.proofs.Digits.{length-decimal}
use Rattle.printing.proofs.Placed.{word-last, word-then, field-last, field-then}
use Rattle.month_page.specs.Page.{label}
use Rattle.month_page.proofs.Lines.{label-written}
use Rattle.month_page.proofs.put_label.Goals as goal

pub returns-in-Month : goal.returns-in-Month
unfolding label
returns-in-Month c = rw c.in-Month.is (rw (c.from.ensures, c.from-in-Month.ensures) at (label-written 29 (omega arith)
    (field-then (bytes "Month ") (decimal c.from.result) 20 (length-decimal c.from.result (search rules)) c.put_field.ensures 3 (word-last c.put_two_digits.ensures))
    c.requires))

pub returns-in-Paid : goal.returns-in-Paid
unfolding label
returns-in-Paid c = rw c.in-Paid.is (rw (c.from-in-Paid.ensures, c.from-in-Paid-2.ensures, c.from-in-Paid-3.ensures) at (label-written 31 (omega arith)
    (field-then (bytes "Paid ") (decimal c.from-in-Paid.result) 20 (length-decimal c.from-in-Paid.result (search rules)) c.put_field-in-Paid.ensures 6
    (word-then c.put_two_digits-in-Paid.ensures 3 (word-last c.put_two_digits-in-Paid-2.ensures)))
    c.requires))

pub returns-in-Usage : goal.returns-in-Usage
unfolding label
returns-in-Usage c = rw c.in-Usage.is (label-written 29 (omega arith)
    (field-then (bytes "Usage ") (decimal c.in-Usage.wh) 20 (length-decimal c.in-Usage.wh (search rules)) c.put_field-in-Usage.ensures 3 (word-last c.put_bytes.ensures))
    c.requires)

pub returns-in-Kind : goal.returns-in-Kind
unfolding label
returns-in-Kind c = rw c.in-Kind.is (rw c.from-in-Kind.ensures at (label-written 25 (omega arith)
    (field-last (bytes "Kind ") (decimal c.from-in-Kind.result) 20 (length-decimal c.from-in-Kind.result (search rules)) c.put_field-in-Kind.ensures)
    c.requires))

pub returns-in-Average : goal.returns-in-Average
unfolding label
returns-in-Average c = rw c.in-Average.is (label-written 7 (omega arith) (word-last c.put_bytes-in-Average.ensures) c.requires)
