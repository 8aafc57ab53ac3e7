-- A line's columns, and a figure in a buffer of its columns. Assumes nothing.
use Prim.Native.Nat.{ℕ, ◌+◌, ◌-◌, ◌≤◌, ◌<◌}
use native.Mathlib.Omega.{arith}
use native.Mathlib.Nat.{zero-add}
use mathlib.Core.Path.{◌≡◌, refl, sym, ap, ◌∙◌}
use mathlib.Core.List.{List, [], ◌∷◌, ◌++◌, append_assoc}
use lib.ListN.{length, get_or, take, drop, replicate, length-append, length-replicate, get_or-replicate, replicate-append-replicate}
use lib.Seq.{take_at, drop_at}
use lib.Dec.{leb}
use borrow.Author.Tests.{leb-true}
use Rattle.ledger.proofs.Cases.{decide}
use Rattle.printing.specs.Printing.{hundredths, fits, put, place_after, Puts}
use Rattle.printing.proofs.Placed.{kept, printed_then, word-last, word-then, from_start}
use Rattle.month_page.specs.Page.{figure_or_none}
use Rattle.month_page.specs.Columns.{IsLaidOut}
use Prim.Native.Nat.{zero, suc}
use Rattle.std.specs.Prelude.{Option, Some, None}
use Rattle.printing.specs.Printer.{Prints, Writes, WritesWithin}
use Rattle.printing.specs.declared.Printer.{Printer}

-- what stands after the first bytes
get_or-after : (xs ys : List ℕ) (i d : ℕ) → get_or (xs ++ ys) (length xs + i) d ≡ get_or ys i d
get_or-after [] ys i d = rw (zero-add i) refl
get_or-after (x ∷ xs) ys i d =
    let e : suc (length xs) + i ≡ suc (length xs + i) = omega arith in
    rw e (get_or-after xs ys i d)

get_or-before : (xs ys : List ℕ) (i d : ℕ) → i < length xs → get_or (xs ++ ys) i d ≡ get_or xs i d
get_or-before [] ys i d h = absurd (omega arith)
get_or-before (x ∷ xs) ys zero d h = refl
get_or-before (x ∷ xs) ys (suc i) d h = get_or-before xs ys i d (omega arith)

module _ (word digits : List ℕ) (h : length word ≤ 58) (g : length digits ≤ 14) where
  abbrev left : List ℕ
  left = replicate (58 - length word) 32

  abbrev right : List ℕ
  right = replicate (14 - length digits) 32

  abbrev line : List ℕ
  line = (word ++ left) ++ ((right ++ digits) ++ 10 ∷ [])

  abbrev end : List ℕ
  end = digits ++ 10 ∷ []

  abbrev between : ℕ
  between = 58 - length word + (14 - length digits)

  -- the label, the spaces, and the figure
  in_three : line ≡ word ++ (replicate between 32 ++ end)
  in_three =
      append_assoc word left ((right ++ digits) ++ 10 ∷ [])
      ∙ ap (λ (l : List ℕ). word ++ l)
      (ap (λ (l : List ℕ). left ++ l) (append_assoc right digits (10 ∷ []))
      ∙ sym (append_assoc left right end)
      ∙ ap (λ (l : List ℕ). l ++ end) (replicate-append-replicate (58 - length word) (14 - length digits) 32))

  in_two : line ≡ (word ++ replicate between 32) ++ end
  in_two = in_three ∙ sym (append_assoc word (replicate between 32) end)

  head-length : length (word ++ replicate between 32) ≡ 72 - length digits
  head-length = length-append word (replicate between 32) ∙ rw (length-replicate {A = ℕ} between 32) (omega arith)

  pub laid-out : IsLaidOut word digits line
  laid-out = record {
    size = rw (in_two, length-append (word ++ replicate between 32) end, head-length, length-append digits (10 ∷ [])) (omega arith);
    ended =
        let e : 72 ≡ length (word ++ replicate between 32) + length digits = rw head-length (omega arith) in
        let z : length digits ≡ length digits + 0 = omega arith in
        rw in_two (ap (λ (k : ℕ). get_or ((word ++ replicate between 32) ++ end) k 0) e
        ∙ get_or-after (word ++ replicate between 32) end (length digits) 0
        ∙ ap (λ (k : ℕ). get_or end k 0) z
        ∙ get_or-after digits (10 ∷ []) 0 0);
    label = rw in_three (take_at word (replicate between 32 ++ end) (length word) refl);
    figure =
        ap (take (length digits)) (rw in_two (drop_at (word ++ replicate between 32) end (72 - length digits) head-length))
        ∙ take_at digits (10 ∷ []) (length digits) refl;
    within = g;
    apart = omega (arith, h);
    spaces = λ c i j.
        let e : c ≡ length word + (c - length word) = omega (arith, i) in
        rw in_three (ap (λ (k : ℕ). get_or (word ++ (replicate between 32 ++ end)) k 0) e
        ∙ get_or-after word (replicate between 32 ++ end) (c - length word) 0
        ∙ inside (c - length word) (omega (arith, i, j, h, g)));
  }
    where
      inside : (k : ℕ) → k < between → get_or (replicate between 32 ++ end) k 0 ≡ 32
      inside k b = get_or-before (replicate between 32) end k 0 (rw (length-replicate {A = ℕ} between 32) b) ∙ get_or-replicate between k 32 0 b

-- ---- as they are printed

pub label-written : {p q : Printer} {x : List ℕ} (most : ℕ) → most ≤ 58 → (p.at + most ≤ length p.out.now → Writes p x q × (q.at ≤ p.at + most))
    → p.at + 58 ≤ length p.out.now → WritesWithin 58 p x q
label-written most h w room = let v = w (omega arith) in (v.0, omega (arith, v.1))

pub line-written : {p q r s u v : Printer} (word digits : List ℕ) → length digits ≤ 14 → p.at + 73 ≤ length p.out.now → WritesWithin 58 p word q
    → Prints q (replicate (58 - length word) 32) r → Prints r (replicate (14 - length digits) 32) s → Prints s digits u → Prints u (10 ∷ []) v
    → Writes p ((word ++ replicate (58 - length word) 32) ++ ((replicate (14 - length digits) 32 ++ digits) ++ 10 ∷ [])) v
line-written word digits g room w a b d f =
    let more = word-then a (length (replicate (14 - length digits) 32) + (length digits + 1)) (word-then b (length digits + 1) (word-then d 1 (word-last f)))
    (omega (arith, room, w.1, w.0.wrote.next, kept w.0.wrote, length-replicate {A = ℕ} (58 - length word) 32, length-replicate {A = ℕ} (14 - length digits) 32)) in
    simp append_assoc (printed_then w.0 more.0)

pub figure-fits : (o : Option ℕ) → length (figure_or_none o) ≤ 14
figure-fits None = omega arith
figure-fits (Some n) = decide (leb (length (hundredths n)) 14) (λ y. simp y (leb-true _ _ y)) (λ f. simp f (omega arith))

-- a figure that fits a buffer of its columns, and one that does not
pub figure-put : (n : ℕ) (before after : List ℕ) (r : ℕ) → length before ≡ 14 → Puts before 0 (hundredths n) after r
    → (r ≡ length (figure_or_none (Some n))) × (after ≡ figure_or_none (Some n) ++ drop r before)
unfolding put place_after fits
figure-put n before after r h p =
    let e : 0 + length (hundredths n) ≡ length (hundredths n) = omega arith in
    decide (leb (length (hundredths n)) 14)
    (λ y.
    let next = simp (e, h, y) at p.next in
    (simp y next, simp y (simp (e, h, y) at p.buffer ∙ from_start before (hundredths n) ∙ ap (λ (k : ℕ). hundredths n ++ drop k before) (sym next))))
    (λ f.
    let next = simp (e, h, f) at p.next in
    (simp f next, simp f (simp (e, h, f) at p.buffer ∙ ap (λ (k : ℕ). drop k before) (sym next))))
