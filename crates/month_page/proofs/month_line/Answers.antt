use Rattle.std.proofs.Common.{arith}
use Rattle.calendar.proofs.Laws.{reached, opens_reached}
use Rattle.month_page.proofs.month_line.Goals as goal

pub overflow_sub-months : goal.overflow_sub-months
overflow_sub-months c = (reached _ (opens_reached _ c.requires.0)).month-low

pub overflow_add-months : goal.overflow_add-months
overflow_add-months c = omega (arith, (reached _ (opens_reached _ c.requires.0)).month-high, c.requires.1)

pub overflow_add-result : goal.overflow_add-result
overflow_add-result c = omega (arith, (reached _ (opens_reached _ c.requires.0)).month-high, (reached _ (opens_reached _ c.requires.0)).until, c.requires.1)
