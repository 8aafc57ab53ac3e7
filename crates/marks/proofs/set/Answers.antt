-- `marks::set` meets its contract. Assumes nothing.
use Rattle.std.proofs.Common.{◌≡◌, ◌+◌, ◌-◌, length, ap, ◌∙◌, arith}
use borrow.Author.Tests.{le-leb}
use borrow.Rule.Slice.PartMut.{mid_of, mid_len}
use Rattle.marks.specs.Marks.{mark_range, marked}
use Rattle.marks.proofs.Turns.{part_none, part_turn}
use Rattle.marks.proofs.set.Goals as goal

pub loop-byte-init : goal.loop-byte-init
loop-byte-init c = part_none _ _ _ _

pub loop-byte-preserved : goal.loop-byte-preserved
loop-byte-preserved c =
    part_turn c.args.marks.now c.loop-byte.byte-items c.args.from _ c.loop-byte.byte-index (omega arith) (omega (arith, c.loop-byte.auto.byte-items, c.loop-byte-test.true)) _ c.loop-byte.invariant

pub returns : goal.returns
unfolding marked
returns c =
    let n : length (mid_of c.args.from (c.args.to + 1 - c.args.from) c.args.marks.now) ≡ c.args.to + 1 - c.args.from = mid_len c.args.from (c.args.to + 1) c.args.marks.now (omega arith) in
    let e : c.loop-byte.byte-index ≡ c.args.to + 1 - c.args.from = omega (arith, n, c.loop-byte.auto.byte-index-end, c.loop-byte-test.false) in
    simp (le-leb c.args.to 399 c.if-to-gt-FINAL_DAY.false) (c.loop-byte.invariant ∙ ap (mark_range c.args.marks.now c.mark_bit-bit.result c.args.from) e ∙ ap (λ b. mark_range c.args.marks.now b c.args.from (c.args.to + 1 - c.args.from)) c.mark_bit-bit.ensures)
