-- `text_account::post_events` meets its contract: the events left give the same account. Assumes nothing.
use Rattle.std.proofs.Common.{◌≡◌, length}
use Rattle.refinement.specs.Lists.{account_after}
use Rattle.text_account.specs.TextAccount.{events_of}
use Rattle.text_account.proofs.post_events.Given as goal

abbrev pub invariant-loop-event : goal.invariant-loop-event
invariant-loop-event l = account_after l.a (events_of l.rest) ≡ account_after l.initial.a (events_of l.text)

abbrev pub decreases-loop-event : goal.decreases-loop-event
decreases-loop-event l = length l.rest
