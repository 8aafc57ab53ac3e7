-- The sums over L (document 01, "An accepted event is one that the ledger accepts"; document 02, T-01).
use Rattle.std.specs.Prelude.{ℕ, ◌+◌, Bool, not, ◌&&◌, ℤ, pos, ◌-ℤ◌}
use Rattle.terms.specs.declared.Terms.{Terms}
use Rattle.ledger.specs.Event.{is_credit, is_charge, is_estimate, is_read}
use Rattle.ledger.specs.Entries.{Entry, Entries, any, sum_of, amount_of, is_kept, read_on, usage_cost}

-- "the accepted payments without an accepted reversal"
unfoldable pub kept_total : Entries → ℕ
kept_total l = sum_of (is_kept l) amount_of l

-- "plus accepted credits"
unfoldable pub credit_total : Entries → ℕ
credit_total l = sum_of (λ (x : Entry) (before : Entries). is_credit x.event) amount_of l

-- "less accepted charges"
unfoldable pub charge_total : Entries → ℕ
charge_total l = sum_of (λ (x : Entry) (before : Entries). is_charge x.event) amount_of l

-- "less the cost of each accepted read"; "The settled amount reads each read at its day's price from then on."
unfoldable pub read_cost : Terms → Entries → ℕ
read_cost t l = sum_of (λ (x : Entry) (before : Entries). is_read x.event) (λ (x : Entry). usage_cost t l x.event) l

-- "The settled amount"
unfoldable pub settled : Terms → Entries → ℤ
settled t l = pos (kept_total l + credit_total l) -ℤ pos (charge_total l + read_cost t l)

-- "accepted ones whose day has no accepted read"
abbrev pub is_standing : Entries → Entry → Entries → Bool
is_standing l x before = is_estimate x.event && not (any (read_on x.event.usage) l)

-- "Standing estimates": their cost
unfoldable pub standing_cost : Terms → Entries → ℕ
standing_cost t l = sum_of (is_standing l) (λ (x : Entry). usage_cost t l x.event) l
