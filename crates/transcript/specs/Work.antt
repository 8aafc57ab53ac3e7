-- The working definitions of the code: the transcript's lines by the account's step and the reading calls.
use Rattle.std.specs.Prelude.{ℕ, List}
use Rattle.ledger.specs.declared.Event.{Event}
use Rattle.account.specs.Step.{step_of}
use Rattle.moves.specs.declared.Totals.{Totals}
use Rattle.account.specs.declared.Account.{Account}
use Rattle.readings.specs.Readings.{balance_of, settled_of}
use Rattle.transcript.specs.Events.{Fold}
use Rattle.transcript.specs.Transcript.{event_line, last_line, lines_fold}

-- the line of an event, by the totals after it
abbrev pub account_line : ℕ → ℕ → ℕ → Totals → List ℕ
account_line n code value s = event_line n code value (balance_of s) s.plan

-- the last line, by the totals
abbrev pub account_last_line : Totals → List ℕ
account_last_line s = last_line (settled_of s) s.standing

-- the lines of events by the account's step
abbrev pub account_lines : Fold (Account × ℕ) (List ℕ)
account_lines =
    lines_fold (λ (a : Account) (e : Event). (step_of a e).account)
    (λ (a : Account) (e : Event). (step_of a e).code)
    (λ (a : Account) (e : Event). (step_of a e).value)
    (λ (n code value : ℕ) (a : Account). account_line n code value a.totals)
    (λ (a : Account). account_last_line a.totals)
