use mathlib.Core.Path.{◌≡◌, ◌∙◌, sym}
use mathlib.Core.Bool.{true}
use mathlib.Core.Logic.{◌↔◌}
use Prim.Native.Nat.{ℕ, suc, ◌+◌, ◌≤◌, ◌<◌}
use lib.Dec.{ltb}
use borrow.Author.Tests.{ltb-true, ltb-false}
use native.Mathlib.Omega.{arith}
use Rattle.std.specs.Bool.{then_some}
use Rattle.calendar.specs.Calendar.{opens, is_day, date_on, month_from, months_after, MonthAnswer}
use Rattle.calendar.specs.Work.{month_start}
use Rattle.calendar.specs.declared.Date.{Date}
use Rattle.calendar.proofs.Sums.{decide}
use Rattle.calendar.proofs.Laws.{day-limits, month-is, month-limit}
use Rattle.calendar.proofs.days_of.Goals as goal
use Rattle.calendar.proofs.days_of.Goals.{then-not-can_open-via-then-not-can_open, then-not-can_open-via-else-not-can_open+then-m-ge-MONTH_COUNT}

-- the days of month m are those from its start to that of month m + 1
span : (o : Date) (m k : ℕ) → is_day o k ≡ true → (month_from o (date_on o k) ≡ m) ↔ ((month_start o m ≤ k) × (k < month_start o (m + 1)))
unfolding month_start
span o m k e =
    let d = day-limits o k e in
    let i = month-is o d.opened.real k m in
    let n : months_after o + (m + 1) ≡ suc (months_after o + m) = omega arith in
    rw n (λ p. omega (arith, i.0 p), λ q. i.1 (omega arith))

limit : (o : Date) (m : ℕ) → month_start o m ≤ 400
unfolding month_start
limit o m = omega arith

answered : (o : Date) (m : ℕ) → opens o ≡ true → MonthAnswer o m (then_some (ltb (month_start o m) (month_start o (m + 1))) (record { from = month_start o m; to = month_start o (m + 1) }))
answered o m t = decide (ltb (month_start o m) (month_start o (m + 1)))
    (λ h. simp h (record { order = ltb-true _ _ h; limit = limit o (m + 1); days = span o m; open_is = t }))
    (λ f. simp f (λ k e d. let s = (span o m k e).0 d in omega (arith, ltb-false _ _ f)))

pub returns-then-not-can_open : goal.returns-then-not-can_open
returns-then-not-can_open c = λ k e d.
    let l = day-limits _ k e in
    let m = month-limit c.args.opened k e in
    elim c.then-not-can_open.branch [
      | then-not-can_open-via-then-not-can_open w ↦ cc
      | then-not-can_open-via-else-not-can_open+then-m-ge-MONTH_COUNT w ↦ omega (arith, w.if-m-ge-MONTH_COUNT.true)
    ]

pub returns : goal.returns
returns c = rw (c.then_some.ensures, c.month_start-from.ensures, c.month_start-to.ensures) (answered c.args.opened c.args.m (sym c.can_open.ensures ∙ c.if-not-can_open.false))
