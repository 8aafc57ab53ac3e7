-- `text::read_event` meets its contract: the rest is shorter, since an event is read. Assumes nothing.
use Rattle.std.proofs.Common.{rules}
use Rattle.scanner.specs.Scanner.{IsRead}
use Rattle.text.specs.Text.{read_event}
use Rattle.text.proofs.Laws.{event-shorter}
use Rattle.text.proofs.read_event.Goals as goal

pub returns-clause-shorter : goal.returns-clause-shorter
unfolding read_event
returns-clause-shorter c =
    let read : IsRead (read_event c.args.text.now) c.read_fields.result = search rules in
    event-shorter _ _ read
