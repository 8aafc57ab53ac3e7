-- The first i events of the row are posted, and their codes written.
use Rattle.std.proofs.Common.{length, ◌-◌}
use Rattle.posting.proofs.RowTurn.{Fine}
use Rattle.posting.proofs.post_each.Given as goal

abbrev pub invariant-loop-i : goal.invariant-loop-i
invariant-loop-i g l = Fine g.A.Postable.account g.A.Postable.posted l.fn.a l.fn.row l.fn.codes l.i l.a l.codes

abbrev pub decreases-loop-i : goal.decreases-loop-i
decreases-loop-i g l = length l.row - l.i
