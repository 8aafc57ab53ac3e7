-- What the calls of the C interface answer: the structs that C gets, as what the record's calls answer.
use Rattle.std.specs.Prelude.{ℕ, ◌≡◌}
use Rattle.ledger.specs.declared.Answer.{Answer}
use Rattle.ledger.specs.declared.Summary.{Summary}
use Rattle.months.specs.Summary.{IsSummary}
use Rattle.readings.specs.Readings.{Readings, ShowsReadings}
use Rattle.numbers.specs.declared.Numbers.{Numbers}
use Rattle.numbers.specs.Numbers.{is_yes, yes_no, account_in}
use Rattle.head.specs.declared.AnswerNumbers.{AnswerNumbers}
use Rattle.head.specs.declared.ReadingNumbers.{ReadingNumbers}
use Rattle.head.specs.declared.FigureNumbers.{FigureNumbers}

abbrev pub answer_in : AnswerNumbers → Answer
answer_in r = record { code = r.code; value = r.value }

-- service is 1 or 0
abbrev pub readings_in : ReadingNumbers → Readings
readings_in r = record { balance = r.balance; plan = r.plan; on = is_yes r.service; settled = r.settled; standing = r.estimates }

abbrev pub figure_numbers : Summary → FigureNumbers
figure_numbers s = record {
  code = s.code;
  kept_count = s.kept.count;
  kept_sum = s.kept.sum;
  reversed_count = s.reversed.count;
  reversed_sum = s.reversed.sum;
  metered_wh = s.metered.wh;
  metered_cost = s.metered.cost;
  estimated_wh = s.estimated.wh;
  estimated_cost = s.estimated.cost;
  charges = s.charges;
  average = s.average;
  missing = yes_no s.missing;
}

-- `prepay_readings`: what the five reading calls promise, of the account that the numbers are read as.
pub record ReadsIn (n : Numbers) (r : ReadingNumbers) : Type 0 where
  pub shown : ShowsReadings (account_in n).totals (readings_in r)
  pub service : r.service ≡ yes_no (is_yes r.service)

-- `prepay_summary`: what the record's summary promises, of the account that the numbers are read as.
abbrev pub SummaryIn : Numbers → ℕ → FigureNumbers → Type 0
SummaryIn n m r = (s : Summary) × IsSummary (account_in n) m s × (r ≡ figure_numbers s)
