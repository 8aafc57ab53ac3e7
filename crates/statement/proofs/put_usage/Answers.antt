-- `statement::put_usage` meets its contract. Assumes nothing.
use Rattle.std.proofs.Common.{rules}
use Rattle.scanner.specs.Scanner.{bytes}
use Rattle.printing.specs.Printing.{decimal}
use Rattle.printing.proofs.Digits.{length-decimal}
use Rattle.printing.proofs.Placed.{field-last, field-then}
use Rattle.statement.specs.Statement.{usage_part}
use Rattle.statement.proofs.Lines.{then-fields}
use Rattle.statement.proofs.put_usage.Goals as goal

pub returns : goal.returns
unfolding usage_part
returns c =
    let s = c.args.s in
    let w =
    field-then (bytes " metered_wh=") (decimal s.metered.wh) 20 (length-decimal s.metered.wh (search rules)) c.put_field.ensures 104
    (field-then (bytes " metered_cost=") (decimal s.metered.cost) 20 (length-decimal s.metered.cost (search rules)) c.put_field-2.ensures 70
    (field-then (bytes " estimated_wh=") (decimal s.estimated.wh) 20 (length-decimal s.estimated.wh (search rules)) c.put_field-3.ensures 36
    (field-last (bytes " estimated_cost=") (decimal s.estimated.cost) 20 (length-decimal s.estimated.cost (search rules)) c.put_field-4.ensures))) c.requires in
    (rw (then-fields (bytes " metered_wh=") s.metered.wh (bytes " metered_cost=") s.metered.cost _) w.0, w.1)
