use native.Mathlib.Omega.{arith}
use Rattle.calendar.proofs.Years.{guess, guess_last}
use Rattle.calendar.proofs.month_in.Goals as goal
use Rattle.calendar.proofs.month_in.Goals.{else-m-lt12-via-then-m-lt12+else-days_before-left, else-m-lt12-via-else-m-lt12}

pub returns-else-m-lt12 : goal.returns-else-m-lt12
returns-else-m-lt12 c =
    let g = guess c.args.leap c.args.left c.requires in elim c.else-m-lt12.branch [
      | else-m-lt12-via-then-m-lt12+else-days_before-left w ↦ record { month = g.month; begun = g.begun; next = omega arith }
      | else-m-lt12-via-else-m-lt12 w ↦ record { month = g.month; begun = g.begun; next = guess_last _ _ c.requires w.if-m-lt12.false }
    ]
