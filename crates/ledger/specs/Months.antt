-- The month summary over L (document 01, "Month summary").
use Rattle.std.specs.Prelude.{ℕ, ◌+◌, ◌*◌, ◌/◌, Bool, false, cond, ◌&&◌, [], ◌∷◌, eqb}
use Rattle.calendar.specs.Calendar.{date_on, month_from, total, day_count}
use Rattle.calendar.specs.Days.{any_day}
use Rattle.terms.specs.declared.Terms.{Terms}
use Rattle.ledger.specs.declared.Counted.{Counted}
use Rattle.ledger.specs.declared.Used.{Used}
use Rattle.ledger.specs.declared.Summary.{Summary}
use Rattle.ledger.specs.Event.{is_charge}
use Rattle.ledger.specs.Entries.{Entry, Entries, sum_of, amount_of, is_kept, is_reversed, UsageDay, blank, estimated, metered, usage_day, estimate_cost_of}

-- "Month m, 0 to 14, counts from the opening month": the month of day d. No day has a higher one, so a month from 15 on has no days.
abbrev pub month_of : Terms → ℕ → ℕ
month_of t d = month_from t.opened (date_on t.opened d)

abbrev pub in_month : Terms → ℕ → ℕ → Bool
in_month t m d = eqb (month_of t d) m

-- "a month holding none of days 0 to 399 is refused with 3"
unfoldable pub has_days : Terms → ℕ → Bool
has_days t m = any_day (in_month t m) day_count

-- "count and sum" of month m's payments that p picks, "by the payment's day"
unfoldable pub payments_in : Terms → Entries → ℕ → (Entry → Entries → Bool) → (Entry → ℕ) → ℕ
payments_in t l m p f = sum_of (λ (x : Entry) (before : Entries). in_month t m x.event.day && p x before) f l

abbrev pub counted_in : Terms → Entries → ℕ → (Entry → Entries → Bool) → Counted
counted_in t l m p = record { count = payments_in t l m p (λ (x : Entry). 1); sum = payments_in t l m p amount_of }

-- The sum of f over month m's usage days: "by usage day".
unfoldable pub usage_in : Terms → Entries → ℕ → (UsageDay → ℕ) → ℕ
usage_in t l m f = total (λ (u : ℕ). cond (in_month t m u) (f (usage_day t l u)) 0) day_count

abbrev pub metered_wh_of : UsageDay → ℕ
metered_wh_of blank = 0
metered_wh_of (estimated wh cost) = 0
metered_wh_of (metered wh cost) = wh

abbrev pub metered_cost_of : UsageDay → ℕ
metered_cost_of blank = 0
metered_cost_of (estimated wh cost) = 0
metered_cost_of (metered wh cost) = cost

abbrev pub estimated_wh_of : UsageDay → ℕ
estimated_wh_of blank = 0
estimated_wh_of (estimated wh cost) = wh
estimated_wh_of (metered wh cost) = 0

-- "metered Wh and cost, estimated Wh and cost"
abbrev pub metered_in : Terms → Entries → ℕ → Used
metered_in t l m = record { wh = usage_in t l m metered_wh_of; cost = usage_in t l m metered_cost_of }

abbrev pub estimated_in : Terms → Entries → ℕ → Used
estimated_in t l m = record { wh = usage_in t l m estimated_wh_of; cost = usage_in t l m estimate_cost_of }

-- "charges by kind, by event day"
unfoldable pub charges_in : Terms → Entries → ℕ → ℕ → ℕ
charges_in t l m kind =
    sum_of (λ (x : Entry) (before : Entries). is_charge x.event && (eqb x.event.kind kind && in_month t m x.event.day)) amount_of l

-- "((usage cost + kinds 1 and 2) × 100,000 + half the Wh rounded down) / Wh, rounded down, marked missing and 0 where Wh is 0"
unfoldable pub average_of : ℕ → ℕ → ℕ
average_of cost wh = cond (eqb wh 0) 0 ((cost * 100000 + wh / 2) / wh)

-- "usage cost and Wh take both sorts together"
abbrev pub average_in : Terms → Entries → ℕ → ℕ
average_in t l m =
    average_of
    ((metered_in t l m).cost + (estimated_in t l m).cost + charges_in t l m 1 + charges_in t l m 2)
    ((metered_in t l m).wh + (estimated_in t l m).wh)

-- "refused with 3, every figure 0"
abbrev pub no_summary : ℕ → Summary
no_summary code = record {
  code = code;
  kept = record { count = 0; sum = 0 };
  reversed = record { count = 0; sum = 0 };
  metered = record { wh = 0; cost = 0 };
  estimated = record { wh = 0; cost = 0 };
  charges = 0 ∷ 0 ∷ 0 ∷ 0 ∷ 0 ∷ [];
  average = 0;
  missing = false;
}

unfoldable pub ledger_summary : Terms → Entries → ℕ → Summary
ledger_summary t l m =
    cond (has_days t m)
    (record {
      code = 0;
      kept = counted_in t l m (is_kept l);
      reversed = counted_in t l m (is_reversed l);
      metered = metered_in t l m;
      estimated = estimated_in t l m;
      charges = charges_in t l m 1 ∷ charges_in t l m 2 ∷ charges_in t l m 3 ∷ charges_in t l m 4 ∷ charges_in t l m 5 ∷ [];
      average = average_in t l m;
      missing = eqb ((metered_in t l m).wh + (estimated_in t l m).wh) 0;
    })
    (no_summary 3)
