-- The page off the account record, and what `page` promises of it.
use Rattle.std.specs.Prelude.{ℕ, ◌+◌, ◌*◌, ◌<◌, ◌≡◌, cond, not, ◌&&◌, List, length, get_or, Option, Some, None}
use Rattle.calendar.specs.declared.Date.{Date}
use Rattle.calendar.specs.Calendar.{date_on}
use Rattle.ledger.specs.declared.Answer.{Answer}
use Rattle.ledger.specs.declared.Event.{Event}
use Rattle.ledger.specs.Buffers.{Laid, refused}
use Rattle.account.specs.Record.{no_payment}
use Rattle.account.specs.Step.{step_of}
use Rattle.account.specs.declared.Account.{Account}
use Rattle.refinement.specs.Lists.{IsLedgers}
use Rattle.months.specs.Summary.{in_month_of, summary_of}
use Rattle.moves.specs.declared.Payment.{Payment}
use Rattle.month_page.specs.declared.Line.{Line}
use Rattle.month_page.specs.declared.Line.TheVariants.{Paid}
use Rattle.month_page.specs.Page.{line_size, page_room, page_lines, each_line, lines_by, laid_by, ledger_page}
use Rattle.month_page.specs.Columns.{EachStands}

-- the line of a payment that is kept and of month m
abbrev pub payment_line : Date → ℕ → Payment → Option Line
payment_line opened m p = cond (in_month_of opened m p.day && not p.reversed) (Some (Paid (date_on opened p.day) p.amount)) None

-- the lines of the first n payments, and of all
abbrev pub first_paid_lines : Account → ℕ → ℕ → List Line
first_paid_lines a m n = each_line (λ (i : ℕ). payment_line a.terms.opened m (get_or a.payments i no_payment)) n

abbrev pub paid_lines_of : Account → ℕ → List Line
paid_lines_of a m = first_paid_lines a m a.totals.count

unfoldable pub lines_of : Account → ℕ → List Line
lines_of a m = lines_by a.terms.opened m (paid_lines_of a m) (summary_of a m)

abbrev pub page_of : Account → ℕ → List ℕ → Laid
page_of a m buffer = laid_by (summary_of a m) (lines_of a m) buffer

-- what the call leaves
abbrev pub left : Answer → List ℕ → Laid
left r buffer = record { answer = r; buffer = buffer }

-- What `month_page::page` promises of an account's month m and a lent buffer.
pub record IsPage (a : Account) (m : ℕ) (before after : List ℕ) (r : Answer) : Type 0 where
  pub account : left r after ≡ page_of a m before
  pub ledgers : IsLedgers a (λ t l. ledger_page t l.list m before) (left r after)
  pub lines : IsLedgers a (λ t l. page_lines t l.list m) (lines_of a m)
  -- a record that is no account: every event gets 1
  pub none : ((e : Event) → (step_of a e).code ≡ 1) → left r after ≡ refused 1 before
  -- `page_room` holds any page
  pub room : r.code ≡ 16 → length before < page_room
  -- six lines, and one for each payment kept
  pub length : r.code ≡ 0 → r.value ≡ line_size * (6 + (summary_of a m).kept.count)
  -- whatever record gets a page, account or not: its lines stand in the buffer, one after the other
  pub columns : r.code ≡ 0 → EachStands (lines_of a m) after
