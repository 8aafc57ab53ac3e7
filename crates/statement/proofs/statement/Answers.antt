-- `statement::statement` meets its contract. Assumes nothing.
use Rattle.std.proofs.Common.{ℕ, List, rules, subst, sym, arith}
use Rattle.printing.specs.Printer.{Writes}
use Rattle.printing.proofs.Placed.{all-put}
use Rattle.statement.specs.Statement.{summaries, all_months, WholeStatement}
use Rattle.statement.proofs.Whole.{months-printed}
use Rattle.statement.proofs.statement.Goals.{in-Ok, in-Err}
use Rattle.statement.proofs.statement.Goals as goal

pub returns : goal.returns
unfolding summaries
returns c =
    -- the buffer that is left is the printer's
    let left : List ℕ → Type 0 = λ l. WholeStatement c.args.text.now c.args.out.now l c.match-account_of.page.at in
    elim c.match-account_of.branch [
      | in-Ok w ↦
          let v : Writes _ _ c.match-account_of.page = rw (sym w.page-is) at w.put_months.ensures in
          subst left (search (rules, v.same)) (all-put _ _ c.if-out-lt-STATEMENT_ROOM.false v.wrote (months-printed _ _ w.in-Ok.ensures))
      | in-Err w ↦
          let v : Writes _ _ c.match-account_of.page = rw (sym w.page-is) at w.put_refusal.ensures.printed (omega (arith, c.if-out-lt-STATEMENT_ROOM.false)) in
          subst left (search (rules, v.same)) (all-put _ _ c.if-out-lt-STATEMENT_ROOM.false v.wrote (w.in-Err.ensures all_months))
    ]
