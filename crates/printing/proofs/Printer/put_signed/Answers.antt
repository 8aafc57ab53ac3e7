-- `Printer::put_signed` meets its contract. Assumes nothing.
use Rattle.std.proofs.Common.{sym, ◌∙◌}
use Rattle.printing.proofs.Placed.{all, none}
use Rattle.printing.proofs.Printer.put_signed.Goals as goal

pub returns-then-has_room : goal.returns-then-has_room
returns-then-has_room c = all _ _ _ _ (sym c.has_room.ensures ∙ c.if-has_room.true) c.put_bytes.ensures c.put_bytes-then-has_room.ensures c.put_bytes-then-has_room-2.ensures

pub returns-else-has_room : goal.returns-else-has_room
returns-else-has_room c = none c.args.self.now _ _ _ (sym c.has_room.ensures ∙ c.if-has_room.false)
