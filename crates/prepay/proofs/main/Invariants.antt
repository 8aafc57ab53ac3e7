-- `prepay::main` ends: there is a last piece. Assumes nothing.
use Rattle.transcript.specs.Progress.{reached}
use Rattle.transcript.proofs.Whole.{unread}
use Rattle.prepay.proofs.main.Given as goal

abbrev pub decreases-loop-progress : goal.decreases-loop-progress
decreases-loop-progress l = unread l.text.items (reached l.progress 0)
