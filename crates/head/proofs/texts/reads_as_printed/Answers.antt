use Rattle.transcript.specs.Transcript.{ledger_lines}
use Rattle.text_account.specs.TextAccount.{event_list}
use Rattle.head.proofs.Events.{in-text}
use Rattle.head.proofs.texts.reads_as_printed.Goals as goal

pub returns : goal.returns
returns c = record { prepay = in-text ledger_lines; summary = in-text (λ t. event_list) }
