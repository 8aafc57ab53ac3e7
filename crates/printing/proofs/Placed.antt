-- Bytes that fit, one thing after the other. Assumes nothing.
use mathlib.Core.Path.{◌≡◌, refl, sym, ap, ◌∙◌}
use mathlib.Core.Bool.{Bool, true, false, cond}
use mathlib.Core.List.{List, ◌++◌, append_assoc}
use Prim.Native.Nat.{ℕ, ◌+◌, ◌≤◌, ◌<◌}
use native.Mathlib.Nat.{zero-add}
use native.Mathlib.Omega.{arith}
use lib.ListN.{length, drop, length-append}
use lib.Dec.{ltb, leb}
use borrow.Author.Tests.{lt-ltb, le-ltb, le-leb, leb-true}
use Rattle.printing.specs.Printing.{over, Puts, Wrote, Whole}
use Rattle.printing.specs.Printer.{Prints, Writes}
use Rattle.printing.specs.declared.Printer.{Printer}
use Rattle.printing.proofs.Laws.{length_over, over-over, put-fits, past_fits, puts-all, puts-nothing}

module _ {b : List ℕ} {at : ℕ} {x after : List ℕ} {r : ℕ} where
  pub wrote : Puts b at x after r → at + length x ≤ length b → Wrote b at x after r
  wrote p h = record { buffer = p.buffer ∙ put-fits b at x h; next = p.next ∙ past_fits b at x h; room = h }

  pub kept : Wrote b at x after r → length after ≡ length b
  kept w = ap length w.buffer ∙ length_over b at x w.room

  pub wrote_then : {y last : List ℕ} {q : ℕ} → Wrote b at x after r → Wrote after r y last q → Wrote b at (x ++ y) last q
  wrote_then {y} {last} {q} w v =
      let fits : at + length x + length y ≤ length b = omega (arith, w.next, v.room, kept w) in
      record {
        buffer = v.buffer ∙ ap (λ (l : List ℕ). over l r y) w.buffer ∙ ap (λ (k : ℕ). over (over b at x) k y) w.next ∙ over-over b at x y fits;
        next = simp length-append (omega (arith, w.next, v.next));
        room = simp length-append (omega arith);
      }

-- ---- by a printer

module _ {p q : Printer} {x : List ℕ} where
  pub printed : Prints p x q → p.at + length x ≤ length p.out.now → Writes p x q
  printed w h = record { same = w.same; wrote = wrote w.puts h }

  pub printed_then : {y : List ℕ} {r : Printer} → Writes p x q → Writes q y r → Writes p (x ++ y) r
  printed_then w v = record { same = v.same ∙ w.same; wrote = wrote_then w.wrote v.wrote }

-- a word and what follows it, as one
module _ (p : Printer) (x y : List ℕ) where
  together : p.at + (length x + length y) ≡ p.at + length (x ++ y)
  together = ap (λ (k : ℕ). p.at + k) (sym (length-append x y))

  pub both : {q r : Printer} → leb (p.at + (length x + length y)) (length p.out.now) ≡ true → Prints p x q → Prints q y r → Prints p (x ++ y) r
  both {q} {r} t w v =
      let h : p.at + (length x + length y) ≤ length p.out.now = leb-true _ _ t in
      let first : Writes p x q = printed w (omega (arith, h)) in
      let whole : Writes p (x ++ y) r = printed_then first (printed v (omega (arith, h, first.wrote.next, kept first.wrote))) in
      record { same = whole.same; puts = puts-all _ _ _ _ _ whole.wrote.room whole.wrote.buffer whole.wrote.next }

  pub neither : leb (p.at + (length x + length y)) (length p.out.now) ≡ false → Prints p (x ++ y) p
  neither f = record { same = refl; puts = puts-nothing _ _ _ (rw together at f) }

-- a word, a sign and what follows them, as one
module _ (p : Printer) (x y z : List ℕ) where
  joined : p.at + (length x + length y + length z) ≡ p.at + (length x + length (y ++ z))
  joined = simp length-append (omega arith)

  pub all : {q r s : Printer} → leb (p.at + (length x + length y + length z)) (length p.out.now) ≡ true → Prints p x q → Prints q y r → Prints r z s → Prints p (x ++ (y ++ z)) s
  all {q} {r} {s} t w v u =
      let h : p.at + (length x + length y + length z) ≤ length p.out.now = leb-true _ _ t in
      let first : Writes p x q = printed w (omega (arith, h)) in
      both p x (y ++ z) (rw joined at t) w (both q y z (le-leb _ _ (omega (arith, h, first.wrote.next, kept first.wrote))) v u)

  pub none : leb (p.at + (length x + length y + length z)) (length p.out.now) ≡ false → Prints p (x ++ (y ++ z)) p
  none f = neither p x (y ++ z) (rw joined at f)

-- ---- the last word, the last field, and a word, or a field, and what follows it: whole, and how far they reach, with `most` digits at most and `rest`
-- bytes at most after them

pub word-last : {p q : Printer} {x : List ℕ} → Prints p x q → p.at + length x ≤ length p.out.now → Writes p x q × (q.at ≤ p.at + length x)
word-last {p} {q} {x} w h = let v : Writes p x q = printed w h in (v, omega (arith, v.wrote.next))

pub word-then : {p q r : Printer} {x y : List ℕ} → Prints p x q → (rest : ℕ)
    → (q.at + rest ≤ length q.out.now → Writes q y r × (r.at ≤ q.at + rest))
    → p.at + (length x + rest) ≤ length p.out.now
    → Writes p (x ++ y) r × (r.at ≤ p.at + (length x + rest))
word-then w rest next h =
    let f = word-last w (omega arith) in
    let v = next (omega (arith, f.1, kept f.0.wrote)) in
    (printed_then f.0 v.0, omega (arith, f.1, v.1))

module _ {p q : Printer} (word digits : List ℕ) (most : ℕ) (few : length digits ≤ most) (w : Prints p (word ++ digits) q) where
  pub field-last : p.at + (length word + most) ≤ length p.out.now → Writes p (word ++ digits) q × (q.at ≤ p.at + (length word + most))
  field-last h =
      let v : Writes p (word ++ digits) q = printed w (simp length-append (omega arith)) in
      (v, omega (arith, v.wrote.next, length-append word digits))

  pub field-then : (rest : ℕ) {y : List ℕ} {r : Printer}
      → (q.at + rest ≤ length q.out.now → Writes q y r × (r.at ≤ q.at + rest))
      → p.at + (length word + most + rest) ≤ length p.out.now
      → Writes p (word ++ (digits ++ y)) r × (r.at ≤ p.at + (length word + most + rest))
  field-then rest {y} next h =
      let f = field-last (omega arith) in
      let v = next (omega (arith, f.1, kept f.0.wrote)) in
      (rw (sym (append_assoc word digits y)) (printed_then f.0 v.0), omega (arith, f.1, v.1))

-- bytes from the start on
pub from_start : (b x : List ℕ) → over b 0 x ≡ x ++ drop (length x) b
unfolding over
from_start b x = rw (zero-add (length x))

-- ---- all of the bytes or none

pub none-put : (room : ℕ) (bytes before : List ℕ) → length before < room → Whole room bytes before before 0
none-put room bytes before h = record { answer = simp (lt-ltb (length before) room h); buffer = simp (lt-ltb (length before) room h) }

pub all-put : (room : ℕ) (bytes : List ℕ) {before x after : List ℕ} {r : ℕ} → room ≤ length before → Wrote before 0 x after r → bytes ≡ x → Whole room bytes before after r
all-put room bytes {before} {x} {after} {r} h w e = record {
  answer = simp (le-ltb (length before) room h) (w.next ∙ zero-add (length x) ∙ ap length (sym e));
  buffer = simp (le-ltb (length before) room h) (w.buffer ∙ from_start before x ∙ ap (λ (y : List ℕ). y ++ drop (length y) before) (sym e));
}

-- the answer counts bytes of the buffer
count-within : (short : Bool) (bytes before after : List ℕ) (r : ℕ) → r ≡ cond short 0 (length bytes) → after ≡ cond short before (bytes ++ drop (length bytes) before) → r ≤ length after
count-within true bytes before after r e f = omega arith
count-within false bytes before after r e f = omega (arith, simp length-append at (ap length f))

pub within : (room : ℕ) (bytes before after : List ℕ) (r : ℕ) → Whole room bytes before after r → r ≤ length after
within room bytes before after r w = count-within (ltb (length before) room) bytes before after r w.answer w.buffer
