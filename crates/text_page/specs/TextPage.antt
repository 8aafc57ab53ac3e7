-- What `page` prints, as a definition of the bytes and the month it was given, in the ledger's terms.
use Rattle.std.specs.Prelude.{ℕ, cond, List, [], ◌∷◌, ◌++◌, length, drop, eqb}
use Rattle.terms.specs.declared.Terms.{Terms}
use Rattle.ledger.specs.Entries.{Entries}
use Rattle.ledger.specs.Ledger.{ledger_of}
use Rattle.ledger.specs.Months.{ledger_summary}
use Rattle.ledger.specs.Rules.{Ledger}
use Rattle.account.specs.declared.Account.{Account}
use Rattle.refinement.specs.Lists.{IsLedgers}
use Rattle.scanner.specs.Scanner.{bytes, feed}
use Rattle.printing.specs.Printing.{decimal, Whole}
use Rattle.transcript.specs.Transcript.{by_text}
use Rattle.text_account.specs.TextAccount.{events_of}
use Rattle.month_page.specs.Page.{page_room, lines_bytes, page_lines}

-- the line of a month that has no page, by its code
abbrev pub refusal_line : ℕ → List ℕ
refusal_line code = bytes "code=" ++ (decimal code ++ (bytes " value=0" ++ feed ∷ []))

-- the page of month m over L, or that line
unfoldable pub month_printed : ℕ → Terms → Entries → List ℕ
month_printed m t l = cond (eqb (ledger_summary t l m).code 0) (lines_bytes (page_lines t l m)) (refusal_line (ledger_summary t l m).code)

-- of the events in the bytes after good terms, up to the first that breaks the form
abbrev pub text_month : ℕ → Terms → List ℕ → List ℕ
text_month m t rest = month_printed m t (ledger_of t (events_of rest)).list

-- what `page` prints. Refused or malformed terms print the one line that `prepay` prints for them.
unfoldable pub page_printed : ℕ → List ℕ → List ℕ
page_printed m s = by_text (text_month m) s

-- what `text_page::text_page` leaves
abbrev pub WholeTextPage : ℕ → List ℕ → List ℕ → List ℕ → ℕ → Type 0
WholeTextPage m s = Whole page_room (page_printed m s)

-- what `put_month` leaves in a buffer with room for any page: r is the length, and the bytes past it stay
pub record PutsMonth (a : Account) (m : ℕ) (before after : List ℕ) (r : ℕ) : Type 0 where
  pub count : IsLedgers a (λ (t : Terms) (l : Ledger). length (month_printed m t l.list)) r
  pub buffer : IsLedgers a (λ (t : Terms) (l : Ledger). month_printed m t l.list ++ drop (length (month_printed m t l.list)) before) after
