-- Demand 3 of the minutes: one claim about every list of calls and whatever is seen of it.
use Rattle.std.specs.Prelude.{ℕ, ◌≡◌, true, false, List, [], ◌∷◌, ◌++◌, ◌↔◌, pos, ◌+ℤ◌, ◌-ℤ◌, length, get_or}
use Rattle.terms.specs.Terms.{valid_terms}
use Rattle.terms.specs.declared.Terms.{Terms}
use Rattle.ledger.specs.declared.Event.{Event}
use Rattle.ledger.specs.Event.{is_disconnect}
use Rattle.ledger.specs.Entries.{usage_day, estimate_cost_of}
use Rattle.ledger.specs.Rules.{Ledger, day_refused, is_full, MayCut}
use Rattle.ledger.specs.Sums as sums
use Rattle.ledger.specs.Ledger.{opening, ledger_after}
use Rattle.ledger.specs.Calls.{Call, Back, answered, written, fed, ledger_called, ledger_back}
use Rattle.readings.specs.Readings.{Readings}
use Rattle.demand.specs.Calls.{Seen, Interface, Runs}

-- the readings off the ledger
abbrev pub shows : Terms → Ledger → Readings
shows t l = record {
  balance = l.balance;
  plan = l.plan;
  on = l.on;
  settled = sums.settled t l.list;
  standing = sums.standing_cost t l.list;
}

-- the codes that a call hands back: its event i has its code at place i
abbrev pub codes_in : Back → List ℕ
codes_in (answered r) = r.code ∷ []
codes_in (written r bytes) = bytes

-- Of one call c, of which v is seen: l is the ledger just before it.
pub record CallHolds (t : Terms) (l : Ledger) (c : Call) (v : Seen) : Type 0 where
  -- "Every code and value returned, and the balance, unpaid plan and service after it, are those of document 01's ledger for that list. The
  -- settled amount is .. added up from the events the ledger accepted."
  pub back : v.back ≡ ledger_back t l c
  pub after : v.after ≡ shows t (ledger_called t l c)
  -- "The balance less the unpaid plan .. is otherwise lower by exactly what those estimates cost."
  pub identity : v.after.balance -ℤ pos v.after.plan +ℤ pos v.after.standing ≡ v.after.settled
  -- "equals it exactly when no usage day stands on an estimate costing more than zero"
  pub exactly : (v.after.balance -ℤ pos v.after.plan ≡ v.after.settled) ↔ ((u : ℕ) → estimate_cost_of (usage_day t (ledger_called t l c).list u) ≡ 0)
  -- "A disconnect request in the list that passes the day and fullness checks is granted exactly when, just before it, .."; es are the events
  -- of the same call before it, and its code is at place `length es`.
  pub disconnects : (es : List Event) (e : Event) (rest : List Event)
      → fed c ≡ es ++ (e ∷ rest)
      → is_disconnect e ≡ true
      → day_refused (ledger_after t l es) e ≡ false
      → is_full (ledger_after t l es) ≡ false
      → (get_or (codes_in v.back) (length es) 1 ≡ 0)
      ↔ MayCut t (ledger_after t l es) e

-- Of every call in turn, each from the ledger after the calls before it: "fed the terms that made the account, then every event in the order of
-- posting".
abbrev pub CallsHold : Terms → Ledger → List Call → List Seen → Type 0
CallsHold t l [] [] = Unit
CallsHold t l [] (v ∷ vs) = ⊥
CallsHold t l (c ∷ cs) [] = ⊥
CallsHold t l (c ∷ cs) (v ∷ vs) = CallHolds t l c v × CallsHold t (ledger_called t l c) cs vs

-- The demand, over the calls of an interface.
pub record Demand3 (i : Interface) (t : Terms) : Type 0 where
  -- "This holds for every list of events of any kinds .., refused ones included, posted from a fresh account singly, in rows or both."
  pub every : (first : Readings) (cs : List Call) (vs : List Seen) → Runs i t first cs vs → (first ≡ shows t opening) × CallsHold t opening cs vs
  -- and of every list, from terms within their limits, something is seen
  pub some : valid_terms t ≡ true → (cs : List Call) → (first : Readings) × (vs : List Seen) × Runs i t first cs vs
