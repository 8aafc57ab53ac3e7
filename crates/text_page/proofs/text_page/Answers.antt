use Rattle.std.proofs.Common.{ℕ, List, rules, subst, arith}
use Rattle.ledger.specs.Ledger.{ledger_of}
use Rattle.printing.proofs.Placed.{all-put}
use Rattle.text_account.specs.TextAccount.{events_of}
use Rattle.text_page.specs.TextPage.{text_month, month_printed, page_printed, WholeTextPage}
use Rattle.text_page.proofs.Printed.{whole}
use Rattle.text_page.proofs.text_page.Goals as goal

pub returns-in-Ok : goal.returns-in-Ok
unfolding page_printed
returns-in-Ok c =
    let o = c.in-Ok.ensures in
    let m = c.args.m in
    let l = (ledger_of o.terms (events_of o.rest)).list in
    let p = c.put_month.ensures in
    whole 9782 (page_printed m c.args.text.now) c.args.out.now (month_printed m o.terms l) c.put_month.new.out c.put_month.result c.if-out-lt-PAGE_ROOM.false
    (o.printed (text_month m)) (p.count o.terms (events_of o.rest) o.made) (p.buffer o.terms (events_of o.rest) o.made)

pub returns-in-Err : goal.returns-in-Err
unfolding page_printed
returns-in-Err c =
    -- the buffer that is left is the printer's
    let left : List ℕ → Type 0 = λ l. WholeTextPage c.args.m c.args.text.now c.args.out.now l c.put_refusal.new.page.at in
    let v = c.put_refusal.ensures.printed (omega (arith, c.if-out-lt-PAGE_ROOM.false)) in
    subst left (search (rules, v.same)) (all-put _ _ c.if-out-lt-PAGE_ROOM.false v.wrote (c.in-Err.ensures (text_month c.args.m)))
