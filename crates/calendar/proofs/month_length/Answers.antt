use mathlib.Core.Path.{◌∙◌, sym}
use Rattle.calendar.proofs.Years.{february}
use Rattle.calendar.proofs.month_length.Goals as goal

pub returns-then-leap : goal.returns-then-leap
returns-then-leap c = sym (february _ _ c.in-2.is ∙ simp (sym c.leap.ensures ∙ c.if-leap.true))

pub returns-else-leap : goal.returns-else-leap
returns-else-leap c = sym (february _ _ c.in-2.is ∙ simp (sym c.leap.ensures ∙ c.if-leap.false))
