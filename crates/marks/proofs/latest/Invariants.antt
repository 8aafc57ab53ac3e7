use Prim.Native.Nat.{◌-◌, ◌≤◌}
use mathlib.Core.Path.{◌≡◌}
use Rattle.marks.specs.Marks.{latest_of, latest_warning}
use Rattle.marks.proofs.latest.Given as goal

-- what is left gives the same
abbrev pub invariant-loop-d : goal.invariant-loop-d
invariant-loop-d l = record { low : l.first ≤ l.d; high : l.d ≤ 399; same : latest_warning l.warned l.day ≡ latest_of l.warned l.d (l.d - l.first) }

abbrev pub decreases-loop-d : goal.decreases-loop-d
decreases-loop-d l = l.d - l.first
