-- `marks::weather_near` meets its contract. The loop's invariant: the days left give the same. Assumes nothing.
use mathlib.Core.Path.{◌≡◌}
use lib.ListN.{length}
use Rattle.marks.specs.Marks.{weather_near}
use Rattle.marks.proofs.Turns.{Left, near_left}
use Rattle.marks.proofs.weather_near.Given as goal

abbrev pub invariant-loop-byte : goal.invariant-loop-byte
invariant-loop-byte l =
    let rest = l.byte-iterator.iter.rest.now in
    record { left : Left l.marks rest; same : weather_near l.marks l.weekday l.day ≡ near_left l.marks l.w (length rest) l.left }
