-- No label of a page reaches the figure's columns. Assumes nothing.
use Prim.Native.Nat.{ℕ, zero, suc, ◌+◌, ◌≤◌, ◌<◌, ◌^◌}
use native.Mathlib.Omega.{arith}
use mathlib.Core.Path.{◌≡◌}
use mathlib.Core.Bool.{true, not, ◌&&◌}
use mathlib.Core.List.{◌++◌}
use lib.ListN.{length, get_or, length-append}
use Rattle.std.specs.Prelude.{option_to_list}
use Rattle.std.proofs.lemmas.Bool.{and_parts}
use Rattle.calendar.specs.declared.Date.{Date}
use Rattle.calendar.specs.Calendar.{opens, is_day, date_on}
use Rattle.calendar.proofs.Laws.{reached, opens_reached, day-reached}
use Rattle.ledger.specs.declared.Summary.{Summary}
use Rattle.ledger.proofs.Cases.{decide}
use Rattle.moves.specs.declared.Payment.{Payment}
use Rattle.account.specs.Record.{no_payment}
use Rattle.account.specs.declared.Account.{Account}
use Rattle.months.specs.Summary.{in_month_of, WithinLimits}
use Rattle.scanner.specs.Scanner.{bytes}
use Rattle.printing.specs.Printing.{decimal, two_digits}
use Rattle.printing.proofs.Digits.{length-decimal}
use Rattle.month_page.specs.declared.Line.{Line}
use Rattle.month_page.specs.declared.Line.TheVariants.{Month, Paid, Usage, Kind, Average}
use Rattle.month_page.specs.Page.{label, each_line, month_line, figure_lines, lines_by}
use Rattle.month_page.specs.Record.{payment_line, first_paid_lines}
use Rattle.month_page.proofs.Lays.{EachNarrow, narrow-append}

-- the number of a label that has no two digits by definition
abbrev number_in : Line → ℕ
number_in (Month year month) = year
number_in (Paid date amount) = date.year
number_in (Usage wh cost) = wh
number_in (Kind kind sum) = kind
number_in (Average average) = 0

pub label-fits : (x : Line) → number_in x < 2 ^ 64 → length (label x) ≤ 58
unfolding label
label-fits (Month year month) h = omega (arith, length-decimal year h, length-append (decimal year) (bytes "-" ++ two_digits month))
label-fits (Paid date amount) h =
    omega (arith, length-decimal date.year h, length-append (decimal date.year) (bytes "-" ++ (two_digits date.month ++ (bytes "-" ++ two_digits date.day))))
label-fits (Usage wh cost) h = omega (arith, length-decimal wh h, length-append (decimal wh) (bytes " Wh"))
label-fits (Kind kind sum) h = omega (arith, length-decimal kind h)
label-fits (Average average) h = omega arith

payment-narrow : (o : Date) (m : ℕ) (p : Payment) → EachNarrow (option_to_list (payment_line o m p))
unfolding in_month_of
payment-narrow o m p = decide (in_month_of o m p.day && not p.reversed)
    (λ y.
    let d = (and_parts (is_day o p.day) _ (and_parts _ (not p.reversed) y).0).0 in
    simp y (label-fits (Paid (date_on o p.day) p.amount) (omega (arith, (reached _ (day-reached o p.day d)).until)), tt))
    (λ f. simp f tt)

paid-narrow : (a : Account) (m n : ℕ) → EachNarrow (first_paid_lines a m n)
unfolding each_line
paid-narrow a m zero = tt
paid-narrow a m (suc n) = narrow-append (first_paid_lines a m n) _ (paid-narrow a m n) (payment-narrow a.terms.opened m (get_or a.payments n no_payment))

-- of any numbers whose terms open an account
pub lines-narrow : (a : Account) (m : ℕ) (s : Summary) → opens a.terms.opened ≡ true → m ≤ 14 → WithinLimits s
    → EachNarrow (lines_by a.terms.opened m (first_paid_lines a m a.totals.count) s)
lines-narrow a m s o h w =
    let r = reached _ (opens_reached _ o) in (
      label-fits (month_line a.terms.opened m) (omega (arith, r.until, r.month-high, h)),
      narrow-append (first_paid_lines a m a.totals.count) (figure_lines s) (paid-narrow a m a.totals.count) (
        label-fits (Usage (s.metered.wh + s.estimated.wh) (s.metered.cost + s.estimated.cost)) (omega (arith, w.wh)),
        (
          label-fits (Kind 3 (get_or s.charges 2 0)) (omega arith),
          (
            label-fits (Kind 4 (get_or s.charges 3 0)) (omega arith),
            (
              label-fits (Kind 5 (get_or s.charges 4 0)) (omega arith),
              (label-fits (Average _) (omega arith), tt),
            ),
          ),
        ),
      ),
    )
