-- Those of the payments passed are laid.
use Rattle.month_page.specs.Record.{first_paid_lines}
use Rattle.month_page.specs.Work.{Lays}
use Rattle.month_page.proofs.put_payments.Given as goal

abbrev pub invariant-loop-number : goal.invariant-loop-number
invariant-loop-number g l = Lays l.initial.page (first_paid_lines (g.A.AsAccount.account l.a) l.m l.number) l.page
