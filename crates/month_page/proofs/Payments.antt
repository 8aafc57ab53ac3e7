-- The payments' lines, one more at a time, and how many they are. Assumes nothing.
use Prim.Native.Nat.{ℕ, zero, suc, ◌+◌, ◌≤◌, ◌<◌, ◌^◌}
use native.Mathlib.Numerals.{add-one}
use native.Mathlib.Omega.{arith}
use mathlib.Core.Path.{◌≡◌, refl, ap}
use mathlib.Core.Bool.{not, ◌&&◌}
use mathlib.Core.List.{[], ◌∷◌, ◌++◌}
use lib.ListN.{length, get_or, length-append}
use lib.Dec.{leb}
use borrow.Author.Tests.{leb-true, leb-false}
use Rattle.std.specs.Prelude.{Option, Some, option_to_list}
use Rattle.calendar.specs.declared.Date.{Date}
use Rattle.calendar.specs.Calendar.{total}
use Rattle.ledger.specs.Refusals.{average_or_0}
use Rattle.ledger.proofs.Cases.{decide}
use Rattle.account.specs.Record.{no_payment}
use Rattle.account.specs.declared.Account.{Account}
use Rattle.months.specs.Summary.{in_month_of, payment_kept, payments_by, one}
use Rattle.month_page.specs.declared.Line.{Line}
use Rattle.month_page.specs.declared.Line.TheVariants.{Paid}
use Rattle.month_page.specs.Page.{each_line}
use Rattle.month_page.proofs.Lays.{append-nil, stands}
use Rattle.month_page.specs.Work.{FigureStands}
use Rattle.month_page.specs.Record.{payment_line, first_paid_lines}

pub first-more : (a : Account) (m n : ℕ) (o : Option Line) → o ≡ payment_line a.terms.opened m (get_or a.payments n no_payment)
    → first_paid_lines a m (n + 1) ≡ first_paid_lines a m n ++ option_to_list o
unfolding each_line
first-more a m n o e = rw (add-one n, e) refl

-- the first lines are some of all
pub each-mono : (f : ℕ → Option Line) (k n : ℕ) → k ≤ n → length (each_line f k) ≤ length (each_line f n)
unfolding each_line
each-mono f k zero h = let e : k ≡ 0 = omega arith in rw e (omega arith)
each-mono f k (suc n) h = decide (leb k n)
    (λ y. omega (arith, each-mono f k n (leb-true k n y), length-append (each_line f n) (option_to_list (f n))))
    (λ y. let e : k ≡ suc n = omega (arith, h, leb-false k n y) in rw e (omega arith))

-- a payment's figure stands
pub paid-stands : (d : Date) (amount : ℕ) → amount < 2 ^ 32 → FigureStands (Paid d amount)
paid-stands d amount h = stands (Paid d amount) (λ n e. omega (arith, h, ap average_or_0 e))

pub length-each : (a : Account) (m n : ℕ) → length (first_paid_lines a m n) ≤ n
unfolding each_line
length-each a m zero = omega arith
length-each a m (suc n) =
    let p = get_or a.payments n no_payment in
    decide (in_month_of a.terms.opened m p.day && not p.reversed)
    (λ y. simp (y, length-append) (omega (arith, length-each a m n)))
    (λ y. simp (y, append-nil) (omega (arith, length-each a m n)))

-- there is room for one more
pub one-more : (a : Account) (m n k : ℕ) (x : Line) → Some x ≡ payment_line a.terms.opened m (get_or a.payments n no_payment) → n + 1 ≤ k
    → length (first_paid_lines a m n) + 1 ≤ length (first_paid_lines a m k)
one-more a m n k x e h =
    let f : ℕ → Option Line = λ i. payment_line a.terms.opened m (get_or a.payments i no_payment) in
    omega (arith, each-mono f (n + 1) k h, ap length (first-more a m n (Some x) e), length-append (first_paid_lines a m n) (x ∷ []))

-- as many as the month's kept payments
pub count-is : (a : Account) (m n : ℕ) → payments_by (in_month_of a.terms.opened m) payment_kept one a.payments n ≡ length (first_paid_lines a m n)
unfolding payments_by total each_line
count-is a m zero = refl
count-is a m (suc n) =
    let p = get_or a.payments n no_payment in
    decide (in_month_of a.terms.opened m p.day && not p.reversed)
    (λ y. simp (y, length-append) (omega (arith, count-is a m n)))
    (λ y. simp (y, append-nil) (omega (arith, count-is a m n)))
