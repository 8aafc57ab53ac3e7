-- `statement::put_months` meets its contract. Assumes nothing.
use Rattle.std.proofs.Common.{ℕ, ◌+◌, ◌*◌, ◌≤◌}
use Rattle.months.specs.Summary.{summary_of}
use Rattle.printing.specs.Printer.{Writes}
use Rattle.statement.specs.Statement.{month_lines, summary_room}
use Rattle.statement.proofs.put_months.Given as goal

abbrev pub invariant-loop-m : goal.invariant-loop-m
invariant-loop-m l = (l.page.at ≤ l.initial.page.at + summary_room * l.m) × Writes l.initial.page (month_lines (λ (k : ℕ). summary_of l.a k) l.m) l.page
