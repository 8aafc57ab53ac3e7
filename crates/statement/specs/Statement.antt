-- What `summary` prints, as a definition of the bytes it was given, in the ledger's terms.
use Rattle.std.specs.Prelude.{ℕ, zero, suc, ◌+◌, cond, List, [], ◌∷◌, ◌++◌, get_or}
use Rattle.calendar.specs.Calendar.{month_count}
use Rattle.terms.specs.declared.Terms.{Terms}
use Rattle.ledger.specs.declared.Summary.{Summary}
use Rattle.ledger.specs.Ledger.{ledger_of}
use Rattle.ledger.specs.Months.{ledger_summary}
use Rattle.scanner.specs.Scanner.{bytes, feed}
use Rattle.printing.specs.Printing.{decimal, Whole}
use Rattle.transcript.specs.Transcript.{by_text}
use Rattle.text_account.specs.TextAccount.{events_of}

-- ---- a line

-- two words, each with its number
abbrev pub two_fields : List ℕ → ℕ → List ℕ → ℕ → List ℕ
two_fields one n two k = one ++ (decimal n ++ (two ++ decimal k))

unfoldable pub payments_part : ℕ → Summary → List ℕ
payments_part m s =
    two_fields (bytes "m=") m (bytes " code=") s.code
    ++ (two_fields (bytes " kept_count=") s.kept.count (bytes " kept_sum=") s.kept.sum
    ++ two_fields (bytes " reversed_count=") s.reversed.count (bytes " reversed_sum=") s.reversed.sum)

unfoldable pub usage_part : Summary → List ℕ
usage_part s =
    two_fields (bytes " metered_wh=") s.metered.wh (bytes " metered_cost=") s.metered.cost
    ++ two_fields (bytes " estimated_wh=") s.estimated.wh (bytes " estimated_cost=") s.estimated.cost

unfoldable pub charges_part : Summary → List ℕ
charges_part s =
    two_fields (bytes " kind1=") (get_or s.charges 0 0) (bytes " kind2=") (get_or s.charges 1 0)
    ++ (two_fields (bytes " kind3=") (get_or s.charges 2 0) (bytes " kind4=") (get_or s.charges 3 0)
    ++ (two_fields (bytes " kind5=") (get_or s.charges 4 0) (bytes " average=") s.average
    ++ (bytes " missing=" ++ (decimal (cond s.missing 1 0) ++ feed ∷ []))))

-- the month's number, its code, its payments, its usage, its charges and its average price; 1 where the average is missing
unfoldable pub summary_line : ℕ → Summary → List ℕ
summary_line m s = payments_part m s ++ (usage_part s ++ charges_part s)

-- the bytes that each part has at most, the line, and all lines
abbrev pub payments_room : ℕ
payments_room = 180

abbrev pub usage_room : ℕ
usage_room = 136

abbrev pub charges_room : ℕ
charges_room = 194

abbrev pub summary_room : ℕ
summary_room = payments_room + usage_room + charges_room

abbrev pub statement_room : ℕ
statement_room = 8192

-- the lines of months 0 to n - 1
unfoldable pub month_lines : (ℕ → Summary) → ℕ → List ℕ
month_lines f zero = []
month_lines f (suc n) = month_lines f n ++ summary_line n (f n)

-- ---- the text

abbrev pub all_months : Terms → List ℕ → List ℕ
all_months t r = month_lines (ledger_summary t (ledger_of t (events_of r)).list) month_count

-- Refused or malformed terms print the one line that `prepay` prints for them.
unfoldable pub summaries : List ℕ → List ℕ
summaries s = by_text all_months s

-- what `statement::statement` leaves
abbrev pub WholeStatement : List ℕ → List ℕ → List ℕ → ℕ → Type 0
WholeStatement s = Whole statement_room (summaries s)
