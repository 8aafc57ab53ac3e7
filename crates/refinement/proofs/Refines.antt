-- The step refines the ledger's: from a record and a ledger that agree, each event gets the same answer, and they agree again.
-- Assumes nothing.
use Prim.Native.Nat.{ℕ, ◌+◌, ◌*◌}
use native.Mathlib.Omega.{arith}
use mathlib.Core.Path.{◌≡◌, refl, sym, ◌∙◌, subst}
use mathlib.Core.Bool.{true, false, ◌||◌, or-false, and-false, true≢false}
use lib.ListN.{length, length-replicate, get_or-replicate}
use lib.Dec.{ltb, leb, eqb}
use Rattle.tariff.proofs.Laws.{opening-taken, opening-force, opening-days}
use Rattle.terms.specs.Terms.{valid_terms}
use Rattle.terms.specs.declared.Terms.{Terms}
use Rattle.ledger.specs.declared.Event.{Event}
use Rattle.ledger.specs.Event.{in_limits}
use Rattle.ledger.specs.Entries.{any, find, last_day, payment_count, count, payment, reversed, usage_day, covered}
use Rattle.ledger.specs.Entries as entries
use Rattle.ledger.specs.Rules.{Ledger}
use Rattle.ledger.specs.Sums.{standing_cost}
use Rattle.ledger.specs.Months.{charges_in}
use Rattle.ledger.specs.Ledger.{opening, refusal, ledger_step}
use Rattle.ledger.specs.Invariant.{Invariant}
use Rattle.ledger.proofs.Cases.{decide}
use Rattle.moves.specs.Moves.{Moved, cells_before, early_code, by_sort, move_of}
use Rattle.moves.proofs.Arms as moves
use Rattle.account.specs.Record.{fresh, blank_day, no_payment}
use Rattle.account.specs.Step.{arrays_of, cells_of, step_of}
use Rattle.account.specs.declared.Account.{Account}
use Rattle.refinement.specs.Agree.{Agree, warned_on}
use Rattle.refinement.proofs.Refusals.{Passes, code-2, code-3, code-4}
use Rattle.refinement.proofs.Agreed.{Same, Refines, early-is, refused-same, passed}
use Rattle.refinement.proofs.Payments.{pays, reverses, credits, charged}
use Rattle.refinement.proofs.Usage.{estimates, reads}
use Rattle.refinement.proofs.Service.{warns, marked, plans, disconnects, connects, prices}

module _ (a : Account) (l : Ledger) (e : Event) (s : Invariant a.terms l) (g : Agree a.terms a l) where
  abbrev t : Terms
  t = a.terms

  abbrev c : Moved
  c = cells_of a e

  by-sort : Passes l e → Refines a l e (by_sort t c (arrays_of a) e e.sort)
  by-sort h = moves.by-sort t c (arrays_of a) e (Refines a l e) (record {
    pays = pays a l e g s h;
    reverses = reverses a l e g s h;
    credits = credits a l e g s h;
    charged = charged a l e g s h;
    estimates = estimates a l e g s h;
    reads = reads a l e g s h;
    warns = warns a l e g s h;
    marked = marked a l e g s h;
    plans = plans a l e g s h;
    disconnects = disconnects a l e g s h;
    connects = connects a l e g s h;
    priced = prices a l e g s h;
    other = λ f. absurd (true≢false (sym h.limits ∙ f));
  })

  -- the move of an event refused by the checks of every event, and of one that passes them
  early : (k : ℕ) → early_code t a.totals e ≡ k → eqb k 0 ≡ false → refusal t l e ≡ k → Refines a l e (move_of t c (arrays_of a) e)
  unfolding move_of cells_before
  early k q f h = rw (q, f) (refused-same a l g e k h f)

  late : Passes l e → Refines a l e (move_of t c (arrays_of a) e)
  unfolding move_of cells_before
  late h = rw (passed a l g e h) (by-sort h)

  moves-refine : Refines a l e (move_of t c (arrays_of a) e)
  moves-refine = decide (ltb e.day (last_day l.list) || ltb 399 e.day)
      (λ d. early 2 (early-is a l g e ∙ simp d) refl (code-2 t l e d))
      (λ d. decide (in_limits e)
      (λ i. decide (leb 4096 (length l.list))
      (λ r. early 4 (early-is a l g e ∙ simp (d, i, r)) refl (code-4 t l e d i r))
      (λ r. late (record { days = d; limits = i; room = r })))
      (λ i. early 3 (early-is a l g e ∙ simp (d, i)) refl (code-3 t l e d i)))

  steps-refine : Same t (step_of a e) (ledger_step t l e)
  unfolding step_of
  steps-refine = moves-refine.same

pub refines : (t : Terms) (a : Account) (l : Ledger) (e : Event) → Invariant t l → Agree t a l → Same t (step_of a e) (ledger_step t l e)
refines t a l e s g =
    subst (λ (x : Terms). Invariant x l → Agree x a l → Same x (step_of a e) (ledger_step x l e)) g.terms (steps-refine a l e) s g

-- a fresh account agrees with the opening ledger
pub agree_fresh : (t : Terms) → valid_terms t ≡ true → Agree t (fresh t) opening
unfolding fresh any find last_day payment_count count payment reversed usage_day covered warned_on standing_cost charges_in entries.sum entries.price_days entries.priced entries.price_on
agree_fresh t v = record {
  terms = refl;
  valid = v;
  sums = record { events = refl; last = refl; balance = refl; plan = refl; on = refl; standing = refl; count = refl };
  bounds = record { full = omega arith; count = omega arith; credit = omega arith; debit = omega arith; plan = omega arith; standing = omega arith };
  kept = record {
    payments = λ n h. absurd (omega arith);
    amounts = λ n. omega arith;
    days = λ u h. simp (get_or-replicate 400 u blank_day blank_day h);
    held = λ u. omega arith;
    marks = λ d h. get_or-replicate 400 d 0 0 h;
    warned = λ d h. get_or-replicate 400 d 0 0 h;
    charges = λ m k h i. get_or-replicate 75 (5 * m + k) 0 0 (omega arith);
    charged = λ m k. omega arith;
    prices = record {
      taken = opening-taken t.price;
      days = λ d h. opening-days t.price d h ∙ rw and-false (sym (or-false (eqb d 0)));
      force = λ u h. opening-force t.price u h;
    };
  };
  sizes = record {
    payments = length-replicate 128 no_payment;
    days = length-replicate 400 blank_day;
    marks = length-replicate {A = ℕ} 400 0;
    warned = length-replicate {A = ℕ} 400 0;
    charges = length-replicate {A = ℕ} 75 0;
    prices = refl;
  };
}
