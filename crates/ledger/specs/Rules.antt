-- The refusals (document 01, "What comes back on a refusal"; document 02, T-01).
use Rattle.std.specs.Prelude.{ℕ, ◌≡◌, Bool, true, false, cond, not, ◌&&◌, ◌||◌, List, [], ◌∷◌, length, ltb, leb, eqb, ℤ, pos, neg_ℤ}
use Rattle.std.specs.Int.Signed.{lt_z, le_z}
use Rattle.calendar.specs.Calendar.{final_day}
use Rattle.tariff.specs.Tariff.{max_price_days}
use Rattle.terms.specs.declared.Terms.{Terms}
use Rattle.ledger.specs.declared.Event.{Event}
use Rattle.ledger.specs.Event.{is_pay, is_reverse, is_estimate, is_read, is_plan, is_disconnect, is_connect, is_price, in_limits}
use Rattle.ledger.specs.Entries.{Entries, last_day, payment_count, reversed, warned, priced, price_days, usage_day, is_blank, is_metered, barred, weather_recent}

-- "It holds the list L of the events it accepted, each payment with its two parts, and B, R and service."
pub record Ledger : Type 0 where
  pub list : Entries
  pub balance : ℤ
  pub plan : ℕ
  pub on : Bool

-- "Each accepted event counts towards 4,096."
abbrev pub max_events : ℕ
max_events = 4096

-- "At most 128 payments."
abbrev pub max_payments : ℕ
max_payments = 128

-- "Kind 1, required: B ≤ −5,000": the debt
abbrev pub required_debt : ℕ
required_debt = 5000

-- "Kind 1, required: B ≤ −5,000, and some weather day w ≤ x has at most one business day among days w+1 to x."
-- "Kind 2, offered: B < 0."
unfoldable pub may_defer : Terms → Ledger → Event → Bool
may_defer t l e =
    cond (eqb e.kind 1)
    (le_z l.balance (neg_ℤ (pos required_debt)) && weather_recent t l.list e.day)
    (lt_z l.balance (pos 0))

abbrev pub Rule : Type 0
Rule = ℕ × Bool

-- The day check, code 2: "x before the last accepted day, or above 399".
abbrev pub day_refused : Ledger → Event → Bool
day_refused l e = ltb e.day (last_day l.list) || ltb final_day e.day

-- The fullness check, code 4: "4,096 events accepted already".
abbrev pub is_full : Ledger → Bool
is_full l = leb max_events (length l.list)

-- Demand 3: "service is on, the balance is below the cutoff, an accepted warning is one to seven days old, and the day is not barred"
abbrev pub MayCut : Terms → Ledger → Event → Type 0
MayCut t l e =
    (l.on ≡ true)
    × (lt_z l.balance (pos t.cutoff) ≡ true)
    × (warned l.list e.day ≡ true)
    × (barred t l.list e.day ≡ false)

-- The table, each number with when it applies. "Several apply: the lowest number of 1 to 14": its order is the rule. The numbers ascend, so
-- the first that applies is the lowest. 1 is of the terms: "no account made", so the table starts at 2.
-- 6: "Once per payment". 12: "R is not counted." 12 and 14: a connect is "granted if service is off and B ≥ `connect`, on any day". 17:
-- "sixteen days after day 0 have a price already and this day is not among them, checked after 4"; no line between them is a price's.
unfoldable pub refusals : Terms → Ledger → Event → List Rule
refusals t l e =
    (2, day_refused l e)
    ∷ (3, not (in_limits e))
    ∷ (4, is_full l)
    ∷ (5, is_pay e && leb max_payments (payment_count l.list))
    ∷ (6, is_reverse e && (leb (payment_count l.list) e.number || reversed l.list e.number))
    ∷ (7, (is_estimate e || is_read e) && leb e.day e.usage)
    ∷ (8, (is_estimate e && not (is_blank (usage_day t l.list e.usage))) || (is_read e && is_metered (usage_day t l.list e.usage)))
    ∷ (9, is_plan e && not (may_defer t l e))
    ∷ (10, is_plan e && ltb 0 l.plan)
    ∷ (11, (is_disconnect e && not l.on) || (is_connect e && l.on))
    ∷ (12, (is_disconnect e && le_z (pos t.cutoff) l.balance) || (is_connect e && lt_z l.balance (pos t.connect)))
    ∷ (13, is_disconnect e && not (warned l.list e.day))
    ∷ (14, is_disconnect e && barred t l.list e.day)
    ∷ (17, is_price e && (leb max_price_days (price_days l.list) && not (priced l.list e.day)))
    ∷ []

-- the number of the first rule that applies; 0 where none does
unfoldable pub first_of : List Rule → ℕ
first_of [] = 0
first_of (r ∷ rs) = cond r.1 r.0 (first_of rs)
