use Rattle.text_account.proofs.Events.{count-suffices}
use Rattle.text_account.proofs.count_suffices.Goals as goal

pub returns : goal.returns
returns c = count-suffices
