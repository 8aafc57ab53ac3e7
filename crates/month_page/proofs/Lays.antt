-- Lines one after the other: laid, and how many bytes they are. Assumes nothing.
use Prim.Native.Nat.{ℕ, zero, suc, ◌+◌, ◌*◌, ◌/◌, ◌≤◌, ◌<◌, ◌^◌}
use native.Mathlib.Omega.{arith}
use mathlib.Core.Path.{◌≡◌, refl, sym, ap, subst, ◌∙◌}
use mathlib.Core.Bool.{true}
use mathlib.Core.Logic.{inl, inr}
use mathlib.Core.List.{List, [], ◌∷◌, ◌++◌, append_assoc}
use lib.ListN.{length, get_or, length-append}
use lib.Seq.{take_at, drop_at}
use lib.Dec.{leb}
use borrow.Author.Tests.{le-leb, leb-false}
use Rattle.ledger.proofs.Cases.{decide}
use Rattle.std.specs.Prelude.{Option, Some, None, option_to_list}
use Rattle.std.proofs.lemmas.Bool.Decides.{nat_tests}
use Rattle.months.specs.Summary.{are_in_range}
use Rattle.printing.specs.Printing.{two_digits, hundredths, decimal}
use Rattle.printing.specs.Printer.{Writes}
use Rattle.printing.specs.declared.Printer.{Printer}
use Rattle.printing.proofs.Laws.{over_none}
use Rattle.printing.proofs.Digits.{short}
use Rattle.printing.proofs.Placed.{printed_then}
use Rattle.month_page.specs.declared.Line.{Line}
use Rattle.month_page.specs.Page.{label, hundredths_of, figure, figure_or_none, line_bytes, lines_bytes}
use Rattle.month_page.proofs.Lines.{laid-out, figure-fits}
use Rattle.month_page.specs.Columns.{is_average, Shows, EachStands}
use Rattle.month_page.specs.Work.{FigureStands, FiguresStand, Holds, EachHolds, Lays}

pub append-nil : {A : Type 0} (l : List A) → l ++ [] ≡ l
append-nil [] = refl
append-nil (x ∷ l) = λ i. x ∷ append-nil l i

pub lays-line : {p q : Printer} (x : Line) → Writes p (line_bytes x) q → Holds x → Lays p (x ∷ []) q
unfolding lines_bytes
lays-line x w h = record { writes = rw (append-nil (line_bytes x)) w; holds = (h, tt) }

lines-append : (xs ys : List Line) → lines_bytes (xs ++ ys) ≡ lines_bytes xs ++ lines_bytes ys
unfolding lines_bytes
lines-append [] ys = refl
lines-append (x ∷ xs) ys = ap (λ (l : List ℕ). line_bytes x ++ l) (lines-append xs ys) ∙ sym (append_assoc (line_bytes x) (lines_bytes xs) (lines_bytes ys))

holds-append : (xs ys : List Line) → EachHolds xs → EachHolds ys → EachHolds (xs ++ ys)
holds-append [] ys h g = g
holds-append (x ∷ xs) ys h g = (h.0, holds-append xs ys h.1 g)

pub lays_then : {p q r : Printer} {xs ys : List Line} → Lays p xs q → Lays q ys r → Lays p (xs ++ ys) r
lays_then {xs} {ys} a b = record { writes = rw (lines-append xs ys) (printed_then a.writes b.writes); holds = holds-append xs ys a.holds b.holds }

pub lays_as : {p q : Printer} {xs ys : List Line} → xs ≡ ys → Lays p xs q → Lays p ys q
lays_as {p} {q} e w = subst (λ (zs : List Line). Lays p zs q) e w

pub lays_none : (p : Printer) → p.at ≤ length p.out.now → Lays p [] p
unfolding lines_bytes
lays_none p h = record {
  writes = record { same = refl; wrote = record { buffer = sym (over_none p.out.now p.at); next = omega arith; room = omega arith } };
  holds = tt;
}

module _ {p q : Printer} {xs : List Line} (o : Option Line) (w : Lays p xs q) where
  pub lays_some : {r : Printer} {x : Line} → o ≡ Some x → Lays q (x ∷ []) r → Lays p (xs ++ option_to_list o) r
  lays_some e v = rw e (lays_then w v)

  pub lays_skip : o ≡ None → Lays p (xs ++ option_to_list o) q
  lays_skip e = rw (e, append-nil xs) w

-- a label that leaves the figure its columns
abbrev pub EachNarrow : List Line → Type 0
EachNarrow [] = Unit
EachNarrow (x ∷ xs) = (length (label x) ≤ 58) × EachNarrow xs

pub narrow-append : (xs ys : List Line) → EachNarrow xs → EachNarrow ys → EachNarrow (xs ++ ys)
narrow-append [] ys h g = g
narrow-append (x ∷ xs) ys h g = (h.0, narrow-append xs ys h.1 g)

holds-narrow : (xs : List Line) → EachHolds xs → EachNarrow xs
holds-narrow [] h = tt
holds-narrow (x ∷ xs) h = (omega (arith, h.0.laid_out.apart), holds-narrow xs h.1)

pub length-lines : (xs : List Line) → EachNarrow xs → length (lines_bytes xs) ≡ 73 * length xs
unfolding lines_bytes line_bytes figure
length-lines [] h = omega arith
length-lines (x ∷ xs) h =
    omega (arith, length-append (line_bytes x) (lines_bytes xs), (laid-out (label x) (figure x) h.0 (figure-fits (hundredths_of x))).size, length-lines xs h.1)

-- where the lines end
pub lays-end : {p q : Printer} {xs : List Line} → Lays p xs q → q.at ≡ p.at + 73 * length xs
lays-end {xs} w = omega (arith, w.writes.wrote.next, length-lines xs (holds-narrow xs w.holds))

-- a number of hundredths that is not too wide
length-hundredths : (n : ℕ) → n < 10 ^ 13 → length (hundredths n) ≤ 14
unfolding hundredths
length-hundredths n h = omega (arith, length-append (decimal (n / 100)) (46 ∷ two_digits n), short 10 (n / 100) (omega (arith, h)))

pub figure-stands : (n : ℕ) → n < 10 ^ 13 → figure_or_none (Some n) ≡ hundredths n
figure-stands n h = simp (le-leb (length (hundredths n)) 14 (length-hundredths n h))

pub stands : (x : Line) → ((n : ℕ) → hundredths_of x ≡ Some n → n < 10 ^ 13) → FigureStands x
unfolding figure
stands x b n a e = rw e (figure-stands n (b n e))

-- the sums of charges that have a line
pub sums-within : (sums : List ℕ) → are_in_range sums ≡ true
    → (get_or sums 2 0 ≤ 1099511627776) × (get_or sums 3 0 ≤ 1099511627776) × (get_or sums 4 0 ≤ 1099511627776)
unfolding are_in_range
sums-within sums h = (grind (arith, nat_tests), grind (arith, nat_tests), grind (arith, nat_tests))

pub stands-at : (xs : List Line) (i : ℕ) (d : Line) → i < length xs → FiguresStand xs → FigureStands (get_or xs i d)
stands-at [] i d h s = absurd (omega arith)
stands-at (x ∷ xs) zero d h s = s.0
stands-at (x ∷ xs) (suc i) d h s = stands-at xs i d (omega arith) s.1

-- ---- as they stand in a buffer

shows : (x : Line) (o : Option ℕ) → hundredths_of x ≡ o → FigureStands x → Shows (is_average x) (figure x) o
unfolding figure
shows x None e s = ap figure_or_none e
shows x (Some n) e s = decide (leb (length (hundredths n)) 14)
    (λ y. inl (ap figure_or_none e ∙ simp y))
    (λ f. decide (is_average x)
    (λ a. inr (a, omega (arith, leb-false _ _ f), ap figure_or_none e ∙ simp f))
    (λ a. inl (s n a e)))

pub lines-stand : (xs : List Line) (rest : List ℕ) → EachHolds xs → EachStands xs (lines_bytes xs ++ rest)
unfolding lines_bytes
lines-stand [] rest h = tt
lines-stand (x ∷ xs) rest h =
    let e = append_assoc (line_bytes x) (lines_bytes xs) rest in
    let first = take_at (line_bytes x) (lines_bytes xs ++ rest) 73 h.0.laid_out.size in
    let after = drop_at (line_bytes x) (lines_bytes xs ++ rest) 73 h.0.laid_out.size in (
      record { laid_out = rw (e, first) h.0.laid_out; shows = shows x (hundredths_of x) refl h.0.stands },
      rw (e, after) (lines-stand xs rest h.1),
    )
