-- `marks::weather_near` meets its contract. Assumes nothing.
use Rattle.std.proofs.Common.{sym, ap, ◌∙◌}
use Rattle.marks.proofs.Turns.{left_first, left_none, left_on, near_here, near_spent, near_weekend, near_workday}
use Rattle.marks.proofs.weather_near.Goals as goal
use Rattle.marks.proofs.weather_near.Goals.{then-w-lt-SATURDAY+else-left-eq0, else-w-lt-SATURDAY}

pub loop-byte-init : goal.loop-byte-init
loop-byte-init c =
    let first = ap (λ r. r.iter.rest.now) c.into_iter-byte-iterator.ensures.into_iter_gives ∙ ap (λ i. i.rest.now) c.rev-byte-items.ensures.source ∙ c.iter.ensures.rest in
    let days = left_first c.args.marks.now _ c.args.weekday c.args.day c.if-day-gt-FINAL_DAY.false c.told-marks first in
    record { left = days.0; same = days.1 }

pub returns-then-byte-ne0 : goal.returns-then-byte-ne0
returns-then-byte-ne0 c = sym (c.loop-byte.invariant.same ∙ near_here _ _ c.loop-byte.invariant.left c.in-Some.ensures.steps _ _ c.if-byte-ne0.true)

pub returns-then-left-eq0 : goal.returns-then-left-eq0
returns-then-left-eq0 c = sym (c.loop-byte.invariant.same ∙ near_spent _ _ c.loop-byte.invariant.left c.in-Some.ensures.steps _ _ c.if-byte-ne0.false c.if-w-lt-SATURDAY.true c.if-left-eq0.true)

pub loop-byte-preserved : goal.loop-byte-preserved
loop-byte-preserved c =
    let g = c.loop-byte.invariant.left in
    let e = c.in-Some.ensures.steps in
    record {
      left = left_on _ _ g e;
      same = c.loop-byte.invariant.same ∙ rw c.day_before-w.ensures (elim c.if-w-lt-SATURDAY.branch [
        | then-w-lt-SATURDAY+else-left-eq0 w ↦ rw w.left-is (near_workday _ _ g e _ _ c.if-byte-ne0.false w.if-w-lt-SATURDAY.true w.if-left-eq0.false)
        | else-w-lt-SATURDAY w ↦ rw w.left-is (near_weekend _ _ g e _ _ c.if-byte-ne0.false w.if-w-lt-SATURDAY.false)
      ]);
    }

pub returns : goal.returns
returns c = sym (c.loop-byte.invariant.same ∙ left_none _ _ _ _ c.in-None.ensures.steps.0)
