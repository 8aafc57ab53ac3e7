-- `text_account::post_events` meets its contract. Assumes nothing.
use Rattle.std.proofs.Common.{sym, ap, ◌∙◌}
use Rattle.account.specs.declared.Account.{Account}
use Rattle.refinement.specs.Lists.{account_after}
use Rattle.text_account.specs.TextAccount.{events_of}
use Rattle.text_account.proofs.Events.{posts, ends}
use Rattle.text_account.proofs.post_events.Goals as goal

pub loop-event-preserved : goal.loop-event-preserved
loop-event-preserved c =
    ap (λ (a : Account). account_after a (events_of c.in-Some.after.now)) c.post.ensures.account
    ∙ sym (posts _ _ _ c.loop-event.a c.in-Some.ensures.read)
    ∙ c.loop-event.invariant

pub returns : goal.returns
returns c = sym (ends _ c.loop-event.a c.in_default.ensures.read) ∙ c.loop-event.invariant
