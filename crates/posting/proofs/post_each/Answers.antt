-- A row's events, one after another: a turn of the loop is `goes_on`, its end is `ends`; a buffer that is too short is `short`.
use Rattle.std.proofs.Common.{rules}
use Rattle.posting.proofs.RowTurn.{goes_on, ends, ends-left, short, short-left}
use Rattle.posting.proofs.post_each.Goals as goal

pub loop-i-preserved : goal.loop-i-preserved
loop-i-preserved g c =
    goes_on _ _ _ _ _ c.loop-i.i c.loop-i.a c.loop-i.codes _ _ _ _ c.loop-i-test.true c.if-codes-row.false c.loop-i.invariant
    c.post-answer.ensures.left c.post-answer.ensures.step c.code.ensures

pub returns-clause-account : goal.returns-clause-account
returns-clause-account g c = ends _ g.A.Postable.posted _ _ _ _ _ _ (search rules) c.loop-i-test.false c.loop-i.invariant

pub returns-clause-left : goal.returns-clause-left
returns-clause-left g c = ends-left g.A.Postable.account _ _ _ _ _ _ _ (search rules) c.loop-i-test.false c.loop-i.invariant

pub returns-then-codes-row-clause-account : goal.returns-then-codes-row-clause-account
returns-then-codes-row-clause-account g c = short g.A.Postable.account g.A.Postable.posted c.args.a.now _ _ (search rules)

pub returns-then-codes-row-clause-left : goal.returns-then-codes-row-clause-left
returns-then-codes-row-clause-left g c = short-left g.A.Postable.account _ _ _ _ (search rules)
