-- Bytes put into a buffer: what stays, and putting one thing after the other. Assumes nothing.
use mathlib.Core.Path.{◌≡◌, sym, ap, ◌∙◌}
use mathlib.Core.Bool.{false}
use mathlib.Core.List.{List, [], ◌++◌, append_assoc}
use Prim.Native.Nat.{ℕ, ◌+◌, ◌-◌, ◌≤◌}
use native.Mathlib.Nat.{add-zero}
use native.Mathlib.Omega.{arith}
use lib.ListN.{length, take, drop, length-append, length-drop, take-append-drop}
use lib.Seq.{length-take-le, take_at, drop_at, drop-drop}
use lib.Dec.{leb}
use borrow.Author.Tests.{le-leb}
use borrow.Rule.Slice.PartMut.{put_mid}
use Rattle.printing.specs.Printing.{over, fits, put, place_after, Puts}

module _ (b : List ℕ) (at : ℕ) (x : List ℕ) (h : at + length x ≤ length b) where
  -- what stands before and in the new bytes
  head-length : length (take at b ++ x) ≡ at + length x
  head-length = length-append (take at b) x ∙ ap (λ (k : ℕ). k + length x) (length-take-le at b (omega arith))

  in_two : over b at x ≡ (take at b ++ x) ++ drop (at + length x) b
  unfolding over
  in_two = sym (append_assoc (take at b) x (drop (at + length x) b))

  take-over : take (at + length x) (over b at x) ≡ take at b ++ x
  take-over = rw in_two (take_at (take at b ++ x) (drop (at + length x) b) (at + length x) head-length)

  drop-over : drop (at + length x) (over b at x) ≡ drop (at + length x) b
  drop-over = rw in_two (drop_at (take at b ++ x) (drop (at + length x) b) (at + length x) head-length)

  pub length_over : length (over b at x) ≡ length b
  length_over =
      ap length in_two
      ∙ length-append (take at b ++ x) (drop (at + length x) b)
      ∙ rw (head-length, length-drop (at + length x) b) (omega arith)

-- nothing
pub over_none : (b : List ℕ) (at : ℕ) → over b at [] ≡ b
unfolding over
over_none b at = rw (add-zero at) (take-append-drop at b)

-- the library's copy into a part
pub placed : (b : List ℕ) (at : ℕ) (x part : List ℕ) → part ≡ x → put_mid at (at + length x - at) b part ≡ over b at x
unfolding over
placed b at x part e =
    rw e (ap (λ (l : List ℕ). take at b ++ (x ++ l)) (drop-drop (at + length x - at) at b ∙ ap (λ (k : ℕ). drop k b) (omega arith)))

-- one thing after the other
pub over-over : (b : List ℕ) (at : ℕ) (x y : List ℕ) → at + length x + length y ≤ length b → over (over b at x) (at + length x) y ≡ over b at (x ++ y)
unfolding over
over-over b at x y h =
    let e : at + length (x ++ y) ≡ at + length x + length y = rw (length-append x y) (omega arith) in
    ap (λ (l : List ℕ). l ++ (y ++ drop (at + length x + length y) (over b at x))) (take-over b at x (omega arith))
    ∙ ap (λ (l : List ℕ). (take at b ++ x) ++ (y ++ l))
    (sym (drop-drop (length y) (at + length x) (over b at x)) ∙ ap (drop (length y)) (drop-over b at x (omega arith)) ∙ drop-drop (length y) (at + length x) b)
    ∙ append_assoc (take at b) x (y ++ drop (at + length x + length y) b)
    ∙ ap (λ (l : List ℕ). take at b ++ l) (sym (append_assoc x y (drop (at + length x + length y) b)))
    ∙ ap (λ (k : ℕ). take at b ++ ((x ++ y) ++ drop k b)) (sym e)

-- ---- where the bytes fit, and where not

module _ (b : List ℕ) (at : ℕ) (x : List ℕ) where
  pub put-fits : at + length x ≤ length b → put b at x ≡ over b at x
  unfolding put fits
  put-fits h = simp (le-leb (at + length x) (length b) h)

  pub past_fits : at + length x ≤ length b → place_after b at x ≡ at + length x
  unfolding place_after fits
  past_fits h = simp (le-leb (at + length x) (length b) h)

  pub puts-all : (after : List ℕ) (r : ℕ) → at + length x ≤ length b → after ≡ over b at x → r ≡ at + length x → Puts b at x after r
  puts-all after r h e n = record { buffer = e ∙ sym (put-fits h); next = n ∙ sym (past_fits h) }

  pub puts-nothing : leb (at + length x) (length b) ≡ false → Puts b at x b at
  unfolding put place_after fits
  puts-nothing f = record { buffer = simp f; next = simp f }
