-- `marks::set` meets its contract. The loop's invariant: the days so far are marked. Assumes nothing.
use Prim.Native.Nat.{◌+◌, ◌-◌}
use mathlib.Core.Path.{◌≡◌}
use borrow.Rule.Slice.PartMut.{put_mid}
use Rattle.marks.specs.Marks.{mark_range}
use Rattle.marks.proofs.set.Given as goal

abbrev pub invariant-loop-byte : goal.invariant-loop-byte
invariant-loop-byte l = put_mid l.from (l.to + 1 - l.from) l.fn.marks l.byte-items ≡ mark_range l.fn.marks l.bit l.from l.byte-index
