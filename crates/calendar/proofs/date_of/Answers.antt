use mathlib.Core.Path.{sym, ◌∙◌}
use Rattle.calendar.proofs.Years.{opened, date_is}
use Rattle.calendar.proofs.date_of.Goals as goal

pub days_before-requires : goal.days_before-requires
days_before-requires c = (opened _ (sym c.can_open.ensures ∙ c.if-not-can_open.false)).month-high

pub returns : goal.returns
returns c =
    let i = c.loop-left.invariant in
    date_is _ _ _ _ _ (sym c.can_open.ensures ∙ c.if-not-can_open.false) c.if-k-gt-FINAL_DAY.false i.since i.same c.date_in.ensures
