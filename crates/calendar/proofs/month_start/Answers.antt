use native.Mathlib.Omega.{arith}
use Rattle.calendar.proofs.Laws.{opens-real}
use Rattle.calendar.proofs.month_start.Goals as goal

pub overflow_add-months_after : goal.overflow_add-months_after
overflow_add-months_after c = omega (arith, opens-real _ c.requires.0)

pub month_after-requires : goal.month_after-requires
month_after-requires c = omega (arith, opens-real _ c.requires.0)
