-- `text_test::short_buffer` is safe. The buffer's length is by a lemma: antt would count its bytes. Assumes nothing.
use Prim.Native.Nat.{ℕ}
use mathlib.Core.Path.{sym}
use lib.ListN.{length-replicate}
use Rattle.text_test.proofs.short_buffer.Goals as goal

pub slice_bounds-transcript-end-2 : goal.slice_bounds-transcript-end-2
slice_bounds-transcript-end-2 g c = sym (length-replicate {A = ℕ} 655359 0)
