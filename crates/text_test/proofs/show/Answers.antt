-- `text_test::show` is safe. The buffer's lengths are by lemmas: antt would count its bytes. Assumes nothing.
use Prim.Native.Nat.{ℕ}
use mathlib.Core.Path.{sym}
use lib.ListN.{length-replicate}
use lib.Seq.{length-take-le}
use Rattle.printing.proofs.Placed.{within}
use Rattle.text_test.proofs.show.Goals as goal

pub slice_bounds-transcript-end : goal.slice_bounds-transcript-end
slice_bounds-transcript-end g c = sym (length-replicate {A = ℕ} 655360 0)

pub slice_bounds-out-end : goal.slice_bounds-out-end
slice_bounds-out-end g c = within _ _ _ _ _ c.transcript-length.ensures

pub slice_bounds-say-end : goal.slice_bounds-say-end
slice_bounds-say-end g c = sym (length-take-le c.transcript-length.result c.transcript-length.new.out (within _ _ _ _ _ c.transcript-length.ensures))
