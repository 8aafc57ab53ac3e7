-- A line's fields one after the other, a flag's number, and the months' lines one after the other. Assumes nothing.
use mathlib.Core.Path.{◌≡◌, refl, sym}
use mathlib.Core.List.{List, ◌++◌, append_assoc}
use Prim.Native.Nat.{ℕ, zero, suc, ◌+◌, ◌≤◌}
use native.Mathlib.Numerals.{add-one}
use native.Mathlib.Omega.{arith}
use Rattle.ledger.specs.declared.Summary.{Summary}
use lib.ListN.{length}
use Rattle.printing.specs.Printing.{decimal}
use Rattle.printing.specs.Printer.{Writes}
use Rattle.printing.specs.declared.Printer.{Printer}
use Rattle.printing.proofs.Laws.{over_none}
use Rattle.printing.proofs.Placed.{printed_then}
use Rattle.statement.specs.Statement.{two_fields, summary_line, month_lines}

-- ---- a line's fields, each after the one before

pub then-fields : (one : List ℕ) (n : ℕ) (two : List ℕ) (k : ℕ) (rest : List ℕ) → two_fields one n two k ++ rest ≡ one ++ (decimal n ++ (two ++ (decimal k ++ rest)))
then-fields one n two k rest = simp append_assoc

-- ---- the months' lines

pub none : (f : ℕ → Summary) (p : Printer) → p.at ≤ length p.out.now → Writes p (month_lines f 0) p
unfolding month_lines
none f p h = record { same = refl; wrote = record { buffer = sym (over_none p.out.now p.at); next = omega arith; room = omega arith } }

pub one_more : (f : ℕ → Summary) (n : ℕ) (s : Summary) {p q r : Printer} → Writes p (month_lines f n) q → s ≡ f n → Writes q (summary_line n s) r → Writes p (month_lines f (n + 1)) r
unfolding month_lines
one_more f n s w e v = rw (add-one n) (printed_then w (rw e at v))

pub same_lines : (f g : ℕ → Summary) → ((m : ℕ) → f m ≡ g m) → (n : ℕ) → month_lines f n ≡ month_lines g n
unfolding month_lines
same_lines f g h zero = refl
same_lines f g h (suc n) = rw (same_lines f g h n, h n)
