-- From the account of a text: the lines are those of its ledger. Assumes nothing.
use Prim.Native.Nat.{ℕ}
use mathlib.Core.Path.{◌≡◌, sym, ◌∙◌}
use mathlib.Core.List.{List}
use Rattle.ledger.specs.Ledger.{ledger_of}
use Rattle.ledger.specs.Months.{ledger_summary}
use Rattle.account.specs.declared.Account.{Account}
use Rattle.months.specs.Summary.{summary_of}
use Rattle.months.proofs.Agrees.{summary-made}
use Rattle.transcript.specs.Transcript.{by_text}
use Rattle.text_account.specs.TextAccount.{events_of, TextAccount}
use Rattle.statement.specs.Statement.{month_lines, all_months}
use Rattle.statement.proofs.Lines.{same_lines}

pub months-printed : (s : List ℕ) (a : Account) → TextAccount s a → by_text all_months s ≡ month_lines (summary_of a) 15
months-printed s a o =
    let es = events_of o.rest in
    o.printed all_months ∙ sym (same_lines (summary_of a) (ledger_summary o.terms (ledger_of o.terms es).list) (λ m. summary-made a m o.terms es o.made) 15)
