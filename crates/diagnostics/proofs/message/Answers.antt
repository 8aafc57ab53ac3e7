-- `diagnostics::message` meets its contract. Assumes nothing.
use Rattle.std.proofs.Common.{ℕ, List, rules, subst, ap}
use Rattle.printing.proofs.Placed.{all-put}
use Rattle.diagnostics.specs.Diagnostics.{message_of, WholeMessage}
use Rattle.diagnostics.proofs.message.Goals as goal

pub returns : goal.returns
returns c =
    -- the buffer that is left is the printer's
    let left : List ℕ → Type 0 = λ l. WholeMessage c.args.text.now c.args.out.now l c.put_message.new.page.at in
    let v = c.put_message.ensures in
    subst left (search (rules, v.same)) (all-put _ _ c.if-out-lt-MESSAGE_ROOM.false v.wrote (search (rules, ap message_of c.form_of.ensures)))
