use Prim.Native.Nat.{◌+◌, ◌/◌, ◌≤◌}
use mathlib.Core.Path.{◌≡◌}
use Rattle.calendar.specs.Calendar.{days_after}
use Rattle.calendar.proofs.Years.{day_in}
use Rattle.calendar.proofs.date_of.Given as goal

-- the days left are those of day k since 1 January of the year
abbrev pub invariant-loop-left : goal.invariant-loop-left
invariant-loop-left l = record { since : 2000 ≤ l.year; until : l.year + l.left / 365 ≤ 2101; same : day_in l.year l.left ≡ days_after l.fn.opened + l.fn.k }

abbrev pub decreases-loop-left : goal.decreases-loop-left
decreases-loop-left l = l.left
