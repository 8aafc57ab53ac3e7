-- `statement::put_charges` meets its contract. Assumes nothing.
use Rattle.std.proofs.Common.{ℕ, get_or, ◌∙◌, rules}
use Rattle.scanner.specs.Scanner.{bytes}
use Rattle.printing.specs.Printing.{decimal}
use Rattle.printing.proofs.Digits.{length-decimal}
use Rattle.printing.proofs.Placed.{word-last, field-then}
use Rattle.statement.specs.Statement.{charges_part}
use Rattle.ledger.proofs.Cases.{flag_is}
use Rattle.statement.proofs.Lines.{then-fields}
use Rattle.statement.proofs.put_charges.Goals as goal

pub returns : goal.returns
unfolding charges_part
returns c =
    let s = c.args.s in
    let kind : ℕ → ℕ = λ k. get_or s.charges k 0 in
    let w =
    field-then (bytes " kind1=") (decimal (kind 0)) 20 (length-decimal (kind 0) (search rules)) c.put_field.ensures 167
    (field-then (bytes " kind2=") (decimal (kind 1)) 20 (length-decimal (kind 1) (search rules)) c.put_field-2.ensures 140
    (field-then (bytes " kind3=") (decimal (kind 2)) 20 (length-decimal (kind 2) (search rules)) c.put_field-3.ensures 113
    (field-then (bytes " kind4=") (decimal (kind 3)) 20 (length-decimal (kind 3) (search rules)) c.put_field-4.ensures 86
    (field-then (bytes " kind5=") (decimal (kind 4)) 20 (length-decimal (kind 4) (search rules)) c.put_field-5.ensures 59
    (field-then (bytes " average=") (decimal s.average) 20 (length-decimal s.average (search rules)) c.put_field-6.ensures 30
    (field-then (bytes " missing=") (decimal c.from.result) 20 (length-decimal c.from.result (search rules)) c.put_field-7.ensures 1
    (word-last c.put_bytes.ensures))))))) c.requires in (
      rw (then-fields (bytes " kind1=") (kind 0) (bytes " kind2=") (kind 1) _, then-fields (bytes " kind3=") (kind 2) (bytes " kind4=") (kind 3) _, then-fields (bytes " kind5=") (kind 4) (bytes " average=") s.average _)
          (rw (c.from.ensures ∙ flag_is s.missing) at w.0),
      w.1,
    )
