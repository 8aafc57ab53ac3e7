use Rattle.std.proofs.Common.{List, subst, sym, arith}
use Rattle.std.proofs.lemmas.List.{length-take-le, take_all, take_more}
use Rattle.printing.proofs.Placed.{kept}
use Rattle.month_page.specs.declared.Line.{Line}
use Rattle.month_page.specs.Work.{Lays}
use Rattle.month_page.proofs.Lays.{lays_none, lays_then, lays-end, stands-at}
use Rattle.month_page.proofs.put_lines.Goals as goal

pub loop-line-init : goal.loop-line-init
loop-line-init c = lays_none _ (omega (arith, c.requires.0))

pub put_line-requires : goal.put_line-requires
put_line-requires c =
    let i = c.loop-line.invariant in
    let n = length-take-le c.loop-line.line-index c.args.lines.now (omega (arith, c.loop-line-test.true)) in
    (omega (arith, c.requires.0, c.loop-line-test.true, lays-end i, n, kept i.writes.wrote), stands-at _ _ _ c.loop-line-test.true c.requires.1)

pub loop-line-preserved : goal.loop-line-preserved
loop-line-preserved c =
    subst (λ (xs : List Line). Lays c.args.page.now xs c.put_line.new.page) (sym (take_more _ _ _ c.loop-line-test.true))
    (lays_then c.loop-line.invariant c.put_line.ensures)

pub returns : goal.returns
returns c =
    subst (λ (xs : List Line). Lays c.args.page.now xs c.loop-line.page) (take_all c.loop-line.line-index c.args.lines.now c.loop-line-test.false)
    c.loop-line.invariant
