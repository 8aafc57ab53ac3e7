use Rattle.std.proofs.Common.{ℕ, List, ◌*◌, ◌+◌, ◌≡◌, length, Ok, rules, subst, sym, ap, ◌∙◌, arith}
use Rattle.terms.specs.declared.Terms.{Terms}
use Rattle.ledger.specs.Ledger.{answer}
use Rattle.ledger.specs.Refusals.{summary_record}
use Rattle.months.specs.Summary.{IsSummary}
use Rattle.printing.proofs.Placed.{kept}
use Rattle.month_page.specs.declared.Line.{Line}
use Rattle.month_page.specs.Page.{month_line}
use Rattle.month_page.specs.Record.{IsPage}
use Rattle.month_page.proofs.Lays.{lays_as, lays_then, lays-end}
use Rattle.month_page.proofs.Made.{opens-is, month-small, all-few, count, few, lines-are, refused-page, short-page, whole-page}
use Rattle.month_page.proofs.page.Goals as goal

pub overflow_add-length : goal.overflow_add-length
overflow_add-length g c = omega (arith, few (g.A.AsAccount.account c.args.a.now) c.args.m c.in_ok-figures.figures c.in_ok-figures.ensures)

pub returns-in_err-figures : goal.returns-in_err-figures
returns-in_err-figures g c =
    refused-page (g.A.AsAccount.account c.args.a.now) c.args.m c.in_err-figures.field-0.0 c.from_residual.result (search rules) c.in_err-figures.ensures c.args.out.now

pub returns-then-out-length : goal.returns-then-out-length
returns-then-out-length g c =
    short-page (g.A.AsAccount.account c.args.a.now) c.args.m c.in_ok-figures.figures c.in_ok-figures.ensures c.args.out.now c.if-out-length.true

pub month_line-requires : goal.month_line-requires
month_line-requires g c =
    let a = g.A.AsAccount.account c.args.a.now in (
      rw (sym c.terms.ensures) at (opens-is a c.args.m c.in_ok-figures.figures c.in_ok-figures.ensures),
      omega (arith, month-small a c.args.m c.in_ok-figures.figures c.in_ok-figures.ensures),
    )

pub put_payments-requires-clause-room : goal.put_payments-requires-clause-room
put_payments-requires-clause-room g c =
    omega (
      arith,
      c.if-out-length.false,
      lays-end c.put_line.ensures,
      kept c.put_line.ensures.writes.wrote,
      count (g.A.AsAccount.account c.args.a.now) c.args.m c.in_ok-figures.figures c.in_ok-figures.ensures,
    )

pub put_payments-requires-clause-count : goal.put_payments-requires-clause-count
put_payments-requires-clause-count g c = all-few (g.A.AsAccount.account c.args.a.now) c.args.m c.in_ok-figures.figures c.in_ok-figures.ensures

pub put_lines-requires : goal.put_lines-requires
put_lines-requires g c =
    let five = ap (λ (xs : List Line). length xs) c.figure_lines.ensures.lines in (
      omega (
        arith,
        c.if-out-length.false,
        lays-end c.put_line.ensures,
        kept c.put_line.ensures.writes.wrote,
        lays-end c.put_payments.ensures,
        kept c.put_payments.ensures.writes.wrote,
        five,
        count (g.A.AsAccount.account c.args.a.now) c.args.m c.in_ok-figures.figures c.in_ok-figures.ensures,
      ),
      c.figure_lines.ensures.stand,
    )

pub returns : goal.returns
returns g c =
    let a = g.A.AsAccount.account c.args.a.now in
    let m = c.args.m in
    let f = c.in_ok-figures.figures in
    let i : IsSummary a m (summary_record (Ok f)) = c.in_ok-figures.ensures in
    let size = 73 * (6 + f.kept.count) in
    -- the buffer that is left is the printer's
    let left : List ℕ → Type 0 = λ l. IsPage a m c.args.out.now l (answer 0 size) in
    let month : c.month_line.result ≡ month_line a.terms.opened m = c.month_line.ensures ∙ ap (λ (t : Terms). month_line t.opened m) c.terms.ensures in
    let laid = rw (month, c.figure_lines.ensures.lines) at (lays_then c.put_line.ensures (lays_then c.put_payments.ensures c.put_lines.ensures)) in
    let all = lays_as (lines-are a m f i) laid in
    subst left (search (rules, all.writes.same))
    (whole-page a m f i c.args.out.now c.put_lines.new.page.out.now c.if-out-length.false all.writes.wrote.buffer all.holds)
