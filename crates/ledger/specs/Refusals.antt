-- The refusals as the code has them, and the paper's number and value of an answer (document 01, "What comes back on a refusal"; document 02).
use Rattle.std.specs.Prelude.{ℕ, Bool, true, false, Option, Some, None, Result, Ok, Err}
use Rattle.ledger.specs.declared.Refusal.{Refusal}
use Rattle.ledger.specs.declared.Refusal.TheVariants as refusal
use Rattle.ledger.specs.declared.Answer.{Answer}
use Rattle.ledger.specs.declared.Figures.{Figures}
use Rattle.ledger.specs.declared.Summary.{Summary}
use Rattle.ledger.specs.Months.{no_summary}

-- 1: "terms outside their limits"; 2: "x before the last accepted day, or above 399"; 3: "event sort, amount, wh, kind, mark days or month
-- outside limits"; 4: "4,096 events accepted already"; 5: "a pay when 128 payments are accepted already"; 6: "no payment of that number, or
-- reversed already"; 7: "u ≥ x"; 8: "estimate on a day not blank, or read on a metered day"; 9: "the plan kind's condition fails"; 10: "R > 0
-- when a plan is posted"; 11: "disconnect while off, connect while on"; 12: "disconnect with B ≥ cutoff, connect with B < `connect`"; 13: "no
-- warning one to seven days old"; 14: "day barred"; 15: "text breaks its form, or exceeds 65,536 bytes"; 16: "lent buffer shorter than the row";
-- 17: "sixteen days after day 0 have a price already and this day is not among them"
abbrev pub refusal_code : Refusal → ℕ
refusal_code refusal.Terms = 1
refusal_code refusal.Day = 2
refusal_code refusal.Limits = 3
refusal_code refusal.Full = 4
refusal_code refusal.Payments = 5
refusal_code refusal.Payment = 6
refusal_code refusal.UsageDay = 7
refusal_code refusal.UsageState = 8
refusal_code refusal.PlanCondition = 9
refusal_code refusal.PlanUnpaid = 10
refusal_code refusal.Service = 11
refusal_code refusal.Balance = 12
refusal_code refusal.Warning = 13
refusal_code refusal.Barred = 14
refusal_code refusal.Form = 15
refusal_code refusal.Buffer = 16
refusal_code refusal.Prices = 17

-- "A granted or accepted event has code 0."
abbrev pub code_of : {A : Type 0} → Result A Refusal → ℕ
code_of (Ok x) = 0
code_of (Err r) = refusal_code r

-- "the answer is that code with value 0"
abbrev pub value_of : Result ℕ Refusal → ℕ
value_of (Ok v) = v
value_of (Err r) = 0

abbrev pub answer_record : Result ℕ Refusal → Answer
answer_record r = record { code = code_of r; value = value_of r }

-- "marked missing and 0 where Wh is 0"
abbrev pub average_or_0 : Option ℕ → ℕ
average_or_0 (Some n) = n
average_or_0 None = 0

abbrev pub is_average_missing : Option ℕ → Bool
is_average_missing (Some n) = false
is_average_missing None = true

-- a month's figures as the record of the C interface has them: "refused with 3, every figure 0"
abbrev pub summary_record : Result Figures Refusal → Summary
summary_record (Ok f) = record {
  code = 0;
  kept = f.kept;
  reversed = f.reversed;
  metered = f.metered;
  estimated = f.estimated;
  charges = f.charges;
  average = average_or_0 f.average;
  missing = is_average_missing f.average;
}
summary_record (Err r) = no_summary (refusal_code r)
