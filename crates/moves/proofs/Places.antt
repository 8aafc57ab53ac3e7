-- The places that an event's move names are there. Assumes nothing.
use mathlib.Core.Path.{◌≡◌}
use Rattle.std.specs.Prelude.{Result}
use native.Mathlib.Nat.{mod-lt}
use native.Mathlib.Omega.{arith}
use Rattle.terms.specs.declared.Terms.{Terms}
use Rattle.ledger.specs.declared.Event.{Event}
use Rattle.ledger.specs.declared.Refusal.{Refusal}
use Rattle.moves.specs.declared.Totals.{Totals}
use Rattle.moves.specs.declared.Payment.{Payment}
use Rattle.moves.specs.declared.Day.{Day}
use Rattle.moves.specs.declared.Move.{Move}
use Rattle.moves.specs.Moves.{Arrays, Moved, cells_before, moved_of, move_of, IsMove}
use Rattle.moves.proofs.Arms.{Sound, sound}

-- the move, as `move_of` promises it
pub is_move : (t : Terms) (s : Totals) (payment : Payment) (day : Day) (r : Arrays) (e : Event) (x : Result Move Refusal)
    → moved_of (cells_before s payment day r e) x ≡ move_of t (cells_before s payment day r e) r e
    → IsMove t s payment day r e x
unfolding cells_before
is_move t s payment day r e x q =
    let m : Moved = cells_before s payment day r e in
    let n : Sound m (move_of t m r e) = sound t m r e (mod-lt e.number (omega arith), omega arith) in
    record { move = q; number = rw q n.number; place = rw q n.place }
