-- `Progress::piece` meets its contract. Assumes nothing.
use Rattle.std.proofs.Common.{rules}
use Rattle.transcript.proofs.Turn.{any-length}
use Rattle.transcript.proofs.Whole.{in-buffer, refused}
use Rattle.transcript.proofs.Progress.piece.Goals as goal

pub returns-clause-piece : goal.returns-clause-piece
returns-clause-piece c =
    in-buffer c.put_terms.new.page.out.now (search rules)
    (refused _ _ c.if-self.false c.if-self-2.false c.if-self-eq0.false c.if-out-lt-PIECE_ROOM.false c.put_terms.ensures.wrote)

pub returns-clause-after_any : goal.returns-clause-after_any
returns-clause-after_any c = λ n. any-length _ _ n (returns-clause-piece c)
