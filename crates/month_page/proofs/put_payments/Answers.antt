use Rattle.std.proofs.Common.{ℕ, List, get_or, ◌≡◌, ◌+◌, ◌≤◌, Some, subst, sym, ap, arith}
use Rattle.printing.proofs.Placed.{kept}
use Rattle.month_page.specs.declared.Line.{Line}
use Rattle.month_page.specs.Page.{each_line}
use Rattle.moves.specs.declared.Totals.{Totals}
use Rattle.account.specs.Record.{no_payment}
use Rattle.month_page.specs.Record.{payment_line, first_paid_lines}
use Rattle.month_page.specs.Work.{Lays}
use Rattle.month_page.proofs.Lays.{lays_none, lays_some, lays_skip, lays-end}
use Rattle.month_page.proofs.Payments.{first-more, one-more}
use Rattle.month_page.proofs.put_payments.Goals.{in-Some, in_default}
use Rattle.month_page.proofs.put_payments.Goals as goal

pub loop-number-init : goal.loop-number-init
unfolding each_line
loop-number-init g c = lays_none _ (omega (arith, c.requires.room))

pub put_line-requires : goal.put_line-requires
put_line-requires g c =
    let a = g.A.AsAccount.account c.args.a.now in
    let i = c.loop-number.invariant in
    let next : Some c.in-Some.line ≡ payment_line a.terms.opened c.args.m (get_or a.payments c.loop-number.number no_payment) =
    rw (c.terms.ensures, c.payment.ensures) at c.in-Some.ensures.line in
    let before : c.loop-number.number + 1 ≤ a.totals.count =
    omega (arith, c.loop-number-test.true, c.min-number-end.ensures, ap (λ (s : Totals). s.count) c.totals.ensures) in (
      omega (arith, c.requires.room, lays-end i, kept i.writes.wrote, one-more a c.args.m c.loop-number.number a.totals.count c.in-Some.line next before),
      c.in-Some.ensures.stands,
    )

pub loop-number-preserved : goal.loop-number-preserved
loop-number-preserved g c =
    let a = g.A.AsAccount.account c.args.a.now in
    let i = c.loop-number.invariant in
    let next : c.payment_line.result ≡ payment_line a.terms.opened c.args.m (get_or a.payments c.loop-number.number no_payment) =
    rw (c.terms.ensures, c.payment.ensures) at c.payment_line.ensures.line in
    subst (λ (xs : List Line). Lays c.args.page.now xs c.match-payment_line.page) (sym (first-more a c.args.m c.loop-number.number c.payment_line.result next))
    (elim c.match-payment_line.branch [
      | in-Some w ↦ rw w.page-is (lays_some {xs = first_paid_lines a c.args.m c.loop-number.number} c.payment_line.result i w.in-Some.is w.put_line.ensures)
      | in_default w ↦ rw w.page-is (lays_skip {xs = first_paid_lines a c.args.m c.loop-number.number} c.payment_line.result i w.in_default.is)
    ])

pub returns : goal.returns
returns g c =
    let a = g.A.AsAccount.account c.args.a.now in
    let all : c.loop-number.number ≡ a.totals.count =
    omega (arith, c.requires.count, c.loop-number.auto.number-end, c.loop-number-test.false, c.min-number-end.ensures, ap (λ (s : Totals). s.count) c.totals.ensures) in
    subst (λ (n : ℕ). Lays c.args.page.now (first_paid_lines a c.args.m n) c.loop-number.page) all c.loop-number.invariant
