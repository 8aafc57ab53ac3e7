-- `statement::put_months` meets its contract. Assumes nothing.
use Rattle.std.proofs.Common.{◌∙◌, arith}
use Rattle.printing.proofs.Placed.{kept}
use Rattle.statement.proofs.Lines.{none, one_more}
use Rattle.statement.proofs.put_months.Goals as goal

pub loop-m-init : goal.loop-m-init
loop-m-init c = (omega arith, none _ _ (omega (arith, c.requires)))

pub put_line-requires : goal.put_line-requires
put_line-requires c = omega (arith, c.requires, c.loop-m.invariant.0, c.loop-m-test.true, kept c.loop-m.invariant.1.wrote)

pub loop-m-preserved : goal.loop-m-preserved
loop-m-preserved c =
    let i = c.loop-m.invariant in
    let line = c.put_line.ensures in
    (omega (arith, i.0, line.1), one_more _ c.loop-m.m _ i.1 (c.from.ensures ∙ c.summary.ensures.account) line.0)
