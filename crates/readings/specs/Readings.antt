-- What the reading calls promise.
use Rattle.std.specs.Prelude.{ℕ, ◌+◌, ◌≡◌, Bool, cond, ◌&&◌, leb, ℤ, pos, ◌-ℤ◌}
use Rattle.terms.specs.declared.Terms.{Terms}
use Rattle.ledger.specs.Rules.{Ledger}
use Rattle.ledger.specs.Sums as sums
use Rattle.moves.specs.Moves.{max_total, is_in_range}
use Rattle.moves.specs.declared.Totals.{Totals}
use Rattle.account.specs.declared.Account.{Account}
use Rattle.refinement.specs.Lists.{IsLedgers}

-- the balance by the totals alone; 0 where they are past any account's
unfoldable pub balance_of : Totals → ℤ
balance_of s = cond (leb s.credit max_total && leb s.debit max_total) (pos s.credit -ℤ pos s.debit) (pos 0)

-- the settled amount by the totals alone: the balance less the unpaid plan, plus the standing estimates' cost; 0 where they are past any
-- account's
unfoldable pub settled_of : Totals → ℤ
settled_of s = cond (is_in_range s) (pos (s.credit + s.standing) -ℤ pos (s.debit + s.plan)) (pos 0)

-- A reading call promises x of the totals s, and in the ledger's terms: what f reads off the ledger, for every list of events that made an
-- account with these totals.
pub record IsReading {A : Type 0} (s : Totals) (x : A) (f : Terms → Ledger → A) (r : A) : Type 0 where
  pub totals : r ≡ x
  pub ledgers : (a : Account) → a.totals ≡ s → IsLedgers a f r

-- what `readings::balance` promises: B
abbrev pub IsBalance : Totals → ℤ → Type 0
IsBalance s r = IsReading s (balance_of s) (λ (t : Terms) (l : Ledger). l.balance) r

-- what `readings::plan` promises: R
abbrev pub IsPlan : Totals → ℕ → Type 0
IsPlan s r = IsReading s s.plan (λ (t : Terms) (l : Ledger). l.plan) r

-- what `readings::service` promises
abbrev pub IsService : Totals → Bool → Type 0
IsService s r = IsReading s s.on (λ (t : Terms) (l : Ledger). l.on) r

-- what `readings::settled` promises
abbrev pub IsSettled : Totals → ℤ → Type 0
IsSettled s r = IsReading s (settled_of s) (λ (t : Terms) (l : Ledger). sums.settled t l.list) r

-- what `readings::estimates` promises
abbrev pub IsEstimates : Totals → ℕ → Type 0
IsEstimates s r = IsReading s s.standing (λ (t : Terms) (l : Ledger). sums.standing_cost t l.list) r

-- ---- all five

-- The readings of an account.
pub record Readings : Type 0 where
  pub balance : ℤ
  pub plan : ℕ
  pub on : Bool
  pub settled : ℤ
  pub standing : ℕ

-- r is what the reading calls may answer of an account with these totals, by their promises
pub record ShowsReadings (s : Totals) (r : Readings) : Type 0 where
  pub balance : IsBalance s r.balance
  pub plan : IsPlan s r.plan
  pub on : IsService s r.on
  pub settled : IsSettled s r.settled
  pub standing : IsEstimates s r.standing
