use mathlib.Core.Path.{◌≡◌, ◌∙◌, sym, ap}
use mathlib.Core.Bool.{true}
use Prim.Native.Nat.{ℕ, ◌+◌}
use lib.Dec.{leb}
use borrow.Author.Tests.{leb-false}
use native.Mathlib.Omega.{arith}
use Rattle.std.specs.Bool.{then_some}
use Rattle.calendar.specs.Calendar.{is_in_reach, opens, is_day, date_on, days_after, DayAnswer}
use Rattle.calendar.specs.declared.Date.{Date}
use Rattle.calendar.proofs.Sums.{decide}
use Rattle.calendar.proofs.Laws.{opens-real, reached-real, day-limits, day-reached, day-real, same-day}
use Rattle.calendar.proofs.day_of.Goals as goal
use Rattle.calendar.proofs.day_of.Goals.{then-not-can_open-via-then-not-can_open, then-not-can_open-via-else-not-can_open+then-not-in_reach}

-- where the date is day k, k is the difference of their days
difference : (o d : Date) (k : ℕ) → is_day o k ≡ true → date_on o k ≡ d → days_after d ≡ days_after o + k
difference o d k e ed = let l = day-real o (day-limits o k e).opened.real k in sym (ap days_after ed) ∙ l.later

-- and the difference is the day, where it is one of the account's
answered : (o d : Date) (k : ℕ) → opens o ≡ true → is_in_reach d ≡ true → days_after d ≡ days_after o + k → DayAnswer o d (then_some (leb k 399) k)
answered o d k t r e =
    let day = day-real o (opens-real o t).real k in
    decide (leb k 399)
    (λ h. simp h (simp t, same-day (date_on o k) d day.real (reached-real d r).real (day.later ∙ sym e)))
    (λ f. simp f (λ j i s. omega (arith, leb-false k 399 f, difference o d j i s, (day-limits o j i).limit)))

pub returns-then-not-can_open : goal.returns-then-not-can_open
returns-then-not-can_open c = λ k e d.
    let l = day-limits _ k e in
    let r = day-reached _ k e in
    let s = ap is_in_reach d in
    elim c.then-not-can_open.branch [
      | then-not-can_open-via-then-not-can_open w ↦ cc
      | then-not-can_open-via-else-not-can_open+then-not-in_reach w ↦ cc
    ]

pub returns-in_err-k : goal.returns-in_err-k
returns-in_err-k c = rw c.from_residual.ensures (λ k e d. let s = difference _ _ k e d in omega (arith, c.in_err-k.ensures))

pub returns : goal.returns
returns c = rw c.then_some.ensures (answered _ _ _ (sym c.can_open.ensures ∙ c.if-not-can_open.false) (sym c.in_reach.ensures ∙ c.if-not-in_reach.false) (omega (arith, c.in_ok-k.ensures)))
