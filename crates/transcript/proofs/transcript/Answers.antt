-- `transcript::transcript` meets its contract. Assumes nothing.
use Rattle.transcript.proofs.Whole.{whole}
use Rattle.transcript.proofs.transcript.Goals as goal

pub returns : goal.returns
returns c = whole _ _ _ _ _ c.begin.ensures c.piece.ensures.piece c.if-out-lt-TRANSCRIPT_ROOM.false c.piece.auto.out
