-- The page of a month: a definition over the ledger's month summary and payments (document 02, T-02).
use Rattle.std.specs.Prelude.{ℕ, zero, suc, ◌+◌, ◌*◌, ◌-◌, ◌/◌, ◌%◌, cond, not, ◌&&◌, List, [], ◌∷◌, ◌++◌, length, get_or, leb, eqb, Option, Some, None, option_to_list}
use Rattle.calendar.specs.declared.Date.{Date}
use Rattle.calendar.specs.Calendar.{date_on}
use Rattle.terms.specs.declared.Terms.{Terms}
use Rattle.ledger.specs.declared.Summary.{Summary}
use Rattle.ledger.specs.Entries.{Entries, payment_count, paid_on, paid_amount, reversed}
use Rattle.ledger.specs.Months.{in_month, ledger_summary}
use Rattle.ledger.specs.Rules.{max_payments}
use Rattle.ledger.specs.Buffers.{Laid, refused, laid}
use Rattle.scanner.specs.Scanner.{bytes, feed}
use Rattle.printing.specs.Printing.{decimal, two_digits, hundredths, aligned_left, aligned_right}
use Rattle.month_page.specs.declared.Line.{Line}
use Rattle.month_page.specs.declared.Line.TheVariants.{Month, Paid, Usage, Kind, Average}

-- ---- a line

-- A year of an account has four digits. "`Month YYYY-MM`", "`Paid YYYY-MM-DD`", "`Usage N Wh`", "`Kind 3` to `Kind 5`", "`Average`"
unfoldable pub label : Line → List ℕ
label (Month year month) = bytes "Month " ++ (decimal year ++ (bytes "-" ++ two_digits month))
label (Paid date amount) = bytes "Paid " ++ (decimal date.year ++ (bytes "-" ++ (two_digits date.month ++ (bytes "-" ++ two_digits date.day))))
label (Usage wh cost) = bytes "Usage " ++ (decimal wh ++ bytes " Wh")
label (Kind kind sum) = bytes "Kind " ++ decimal kind
label (Average average) = bytes "Average"

-- "right-aligned in the last 14 columns"
abbrev pub figure_columns : ℕ
figure_columns = 14

-- The number that a line's figure shows, in hundredths: "amounts in dollars", so of a dollar, cents; "in cents per kWh", so of a cent; none where
-- the line has no figure.
abbrev pub hundredths_of : Line → Option ℕ
hundredths_of (Month year month) = None
hundredths_of (Paid date amount) = Some amount
hundredths_of (Usage wh cost) = Some cost
hundredths_of (Kind kind sum) = Some sum
hundredths_of (Average average) = average

-- "with two decimals"; "An average missing or too wide is 14 spaces." No other figure is too wide: `IsPage.columns`.
abbrev pub figure_or_none : Option ℕ → List ℕ
figure_or_none None = []
figure_or_none (Some n) = cond (leb (length (hundredths n)) figure_columns) (hundredths n) []

unfoldable pub figure : Line → List ℕ
figure x = figure_or_none (hundredths_of x)

-- the columns before them
abbrev pub label_columns : ℕ
label_columns = 72 - figure_columns

-- with the line feed
abbrev pub line_size : ℕ
line_size = label_columns + figure_columns + 1

-- "lines of exactly 72 columns and a line feed, a label from column 1 and a figure"; "All other columns are spaces."
unfoldable pub line_bytes : Line → List ℕ
line_bytes x = aligned_left label_columns (label x) ++ (aligned_right figure_columns (figure x) ++ feed ∷ [])

unfoldable pub lines_bytes : List Line → List ℕ
lines_bytes [] = []
lines_bytes (x ∷ xs) = line_bytes x ++ lines_bytes xs

-- ---- the lines of a page

-- the month of number m, counted from the opening month
abbrev pub month_line : Date → ℕ → Line
month_line opened m = Month (opened.year + (opened.month - 1 + m) / 12) ((opened.month - 1 + m) % 12 + 1)

-- the lines that f gives of numbers 0 to n - 1, in order
unfoldable pub each_line : (ℕ → Option Line) → ℕ → List Line
each_line f zero = []
each_line f (suc n) = each_line f n ++ option_to_list (f n)

-- "`Paid YYYY-MM-DD` per kept payment by number": of month m, by the payment's day
abbrev pub paid_line : Terms → Entries → ℕ → ℕ → Option Line
paid_line t l m n = cond (in_month t m (paid_on l n) && not (reversed l n)) (Some (Paid (date_on t.opened (paid_on l n)) (paid_amount l n))) None

unfoldable pub paid_lines : Terms → Entries → ℕ → List Line
paid_lines t l m = each_line (paid_line t l m) (payment_count l)

-- "with Wh and cost of both sorts together"; the sums of charge kinds 3, 4 and 5; the average, without figure where it is
-- missing
abbrev pub figure_lines : Summary → List Line
figure_lines s =
    Usage (s.metered.wh + s.estimated.wh) (s.metered.cost + s.estimated.cost)
    ∷ Kind 3 (get_or s.charges 2 0)
    ∷ Kind 4 (get_or s.charges 3 0)
    ∷ Kind 5 (get_or s.charges 4 0)
    ∷ Average (cond s.missing None (Some s.average))
    ∷ []

abbrev pub lines_by : Date → ℕ → List Line → Summary → List Line
lines_by opened m paid s = month_line opened m ∷ (paid ++ figure_lines s)

unfoldable pub page_lines : Terms → Entries → ℕ → List Line
page_lines t l m = lines_by t.opened m (paid_lines t l m) (ledger_summary t l m)

-- ---- the call

-- A month that the summary refuses has no page; "a short buffer is 16, found after 3 and before anything is written".
abbrev pub laid_by : Summary → List Line → List ℕ → Laid
laid_by s lines buffer = cond (eqb s.code 0) (laid (lines_bytes lines) buffer) (refused s.code buffer)

abbrev pub ledger_page : Terms → Entries → ℕ → List ℕ → Laid
ledger_page t l m buffer = laid_by (ledger_summary t l m) (page_lines t l m) buffer

-- Six lines, and at most 128 of payments: a buffer that holds any page.
abbrev pub page_room : ℕ
page_room = line_size * (6 + max_payments)
