use Rattle.calendar.proofs.Years.{before_is}
use Rattle.calendar.proofs.days_before.Goals as goal
use Rattle.calendar.proofs.days_before.Goals.{then-leap, else-leap}

pub returns : goal.returns
returns c =
    let e = before_is c.args.leap c.args.month c.requires in rw c.from.ensures (elim c.if-leap.branch [
      | then-leap w ↦ rw (w.from-is, w.if-leap.true) (rw w.if-leap.true at e)
      | else-leap w ↦ rw (w.from-is, w.if-leap.false) (rw w.if-leap.false at e)
    ])
