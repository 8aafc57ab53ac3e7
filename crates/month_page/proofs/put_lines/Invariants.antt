-- The lines passed are laid.
use Rattle.std.proofs.Common.{take}
use Rattle.month_page.specs.Work.{Lays}
use Rattle.month_page.proofs.put_lines.Given as goal

abbrev pub invariant-loop-line : goal.invariant-loop-line
invariant-loop-line l = Lays l.initial.page (take l.line-index l.fn.lines) l.page
