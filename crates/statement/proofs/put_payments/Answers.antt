-- `statement::put_payments` meets its contract. Assumes nothing.
use Rattle.std.proofs.Common.{rules}
use Rattle.scanner.specs.Scanner.{bytes}
use Rattle.printing.specs.Printing.{decimal}
use Rattle.printing.proofs.Digits.{length-decimal}
use Rattle.printing.proofs.Placed.{field-last, field-then}
use Rattle.statement.specs.Statement.{payments_part}
use Rattle.statement.proofs.Lines.{then-fields}
use Rattle.statement.proofs.put_payments.Goals as goal

pub returns : goal.returns
unfolding payments_part
returns c =
    let s = c.args.s in
    let w =
    field-then (bytes "m=") (decimal c.from.result) 20 (length-decimal c.from.result (search rules)) c.put_field.ensures 158
    (field-then (bytes " code=") (decimal c.from-2.result) 20 (length-decimal c.from-2.result (search rules)) c.put_field-2.ensures 132
    (field-then (bytes " kept_count=") (decimal c.from-3.result) 20 (length-decimal c.from-3.result (search rules)) c.put_field-3.ensures 100
    (field-then (bytes " kept_sum=") (decimal s.kept.sum) 20 (length-decimal s.kept.sum (search rules)) c.put_field-4.ensures 70
    (field-then (bytes " reversed_count=") (decimal c.from-4.result) 20 (length-decimal c.from-4.result (search rules)) c.put_field-5.ensures 34
    (field-last (bytes " reversed_sum=") (decimal s.reversed.sum) 20 (length-decimal s.reversed.sum (search rules)) c.put_field-6.ensures))))) c.requires in (
      rw (then-fields (bytes "m=") c.args.m (bytes " code=") s.code _, then-fields (bytes " kept_count=") s.kept.count (bytes " kept_sum=") s.kept.sum _)
          (rw (c.from.ensures, c.from-2.ensures, c.from-3.ensures, c.from-4.ensures) at w.0),
      w.1,
    )
