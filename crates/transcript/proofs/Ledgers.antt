-- The lines by the account's step and the reading calls are the ledger's, for an account that stands for the ledger. Assumes nothing.
use Prim.Native.Nat.{ℕ, zero, suc, ◌+◌, ◌-◌}
use mathlib.Core.Path.{◌≡◌, refl, sym, ap, ap₂, ◌∙◌}
use mathlib.Core.Bool.{Bool, true, false, cond}
use mathlib.Core.List.{List, [], ◌∷◌, ◌++◌}
use native.Mathlib.Omega.{arith}
use lib.ListN.{length, drop}
use lib.Dec.{ltb}
use Rattle.terms.specs.Terms.{valid_terms, terms_code, zero_terms}
use Rattle.terms.specs.declared.Terms.{Terms}
use Rattle.ledger.specs.Rules.{Ledger}
use Rattle.ledger.specs.Ledger.{opening, ledger_step}
use Rattle.ledger.proofs.Cases.{decide}
use Rattle.account.specs.Record.{fresh}
use Rattle.account.specs.Step.{step_of, open_of}
use Rattle.account.specs.declared.Account.{Account}
use Rattle.refinement.specs.Agree.{Represents, Refinement}
use Rattle.refinement.proofs.Lists.{refinement-holds}
use Rattle.readings.proofs.After.{balance-reading, settled-reading}
use Rattle.scanner.specs.Scanner.{Read, got, broken}
use Rattle.text.specs.Text.{read_terms, terms_in, read_event}
use Rattle.text.proofs.Laws.{terms-rest, terms-lines}
use Rattle.transcript.specs.Events.{fold_in}
use Rattle.transcript.specs.Transcript.{ledger_line, ledger_last_line, ledger_lines, terms_line, by_terms, all_lines, transcript}
use Rattle.transcript.specs.Pieces.{lines_from, start_of, begun_of, Begun}
use Rattle.transcript.specs.Progress.{Reached}
use Rattle.transcript.proofs.Whole.{begun, events-left, refusal-left}
use Rattle.transcript.proofs.Terms.{by-terms, code-0, code-1, invalid}
use Rattle.transcript.specs.Work.{account_line, account_last_line, account_lines}
use Rattle.transcript.proofs.Counts.{fold-got, fold-broken}
use Rattle.scanner.proofs.Laws.{by_read}

-- ---- one line

module _ (t : Terms) (a : Account) (l : Ledger) (s : Represents t a l) where
  closing-is : account_last_line a.totals ≡ ledger_last_line t l
  closing-is = rw (settled-reading t a l s, s.agree.sums.standing)

  line-is : (n code value : ℕ) → account_line n code value a.totals ≡ ledger_line n code value l
  line-is n code value = rw (balance-reading t a l s, s.agree.sums.plan)

-- ---- all lines

pub lines_are : (t : Terms) → valid_terms t ≡ true → (k : ℕ) (a : Account) (l : Ledger) (n : ℕ) (s : List ℕ) → Represents t a l → fold_in account_lines k (a, n) s ≡ fold_in (ledger_lines t) k (l, n) s
unfolding fold_in
lines_are t v zero a l n s h = closing-is t a l h
lines_are t v (suc k) a l n [] h = closing-is t a l h
lines_are t v (suc k) a l n (b ∷ s) h = by_read (read_event (b ∷ s))
    (λ e r g.
    let f : Refinement t = refinement-holds t v in
    let m : Ledger = (ledger_step t l e).ledger in
    let st : Represents t (step_of a e).account m = f.again a l e h in
    fold-got account_lines (fold_in account_lines k) (a, n) (b ∷ s) r e (omega arith) g
    ∙ ap₂ ◌++◌
    (line-is t (step_of a e).account m st n (step_of a e).code (step_of a e).value
    ∙ ap₂ (λ (c w : ℕ). ledger_line n c w m) (f.code a l e h) (f.value a l e h))
    (lines_are t v k (step_of a e).account m (n + 1) r st)
    ∙ sym (fold-got (ledger_lines t) (fold_in (ledger_lines t) k) (l, n) (b ∷ s) r e (omega arith) g))
    (λ g.
    fold-broken account_lines (fold_in account_lines k) (a, n) (b ∷ s) (omega arith) g
    ∙ ap₂ ◌++◌ (line-is t a l h n 15 0) (closing-is t a l h)
    ∙ sym (fold-broken (ledger_lines t) (fold_in (ledger_lines t) k) (l, n) (b ∷ s) (omega arith) g))

-- ---- before the first piece

-- by the terms that are read
abbrev begun_by : ℕ → Read Terms → Reached
begun_by n (got t r) = start_of t (n - length r) (terms_code t)
begun_by n broken = start_of zero_terms 0 15

begun-as : (text : List ℕ) → begun_of text ≡ begun_by (length text) (terms_in text)
begun-as text = by (ltb 65536 (length text)) (read_terms text)
  where
    by : (b : Bool) (x : Read Terms) → cond b (start_of zero_terms 0 15) (elim x [ got t r ↦ start_of t (length text - length r) (open_of t).code | broken ↦ start_of zero_terms 0 15 ]) ≡ begun_by (length text) (cond b broken x)
    by true x = refl
    by false (got t r) = refl
    by false broken = refl

module _ (text : List ℕ) where
  pub malformed-begun : terms_in text ≡ broken → (p : Reached) → p ≡ start_of zero_terms 0 15 → Begun text p
  unfolding transcript
  malformed-begun e p is =
      rw is
      (begun text (start_of zero_terms 0 15) (sym (begun-as text ∙ ap (begun_by (length text)) e))
      (refusal-left text (start_of zero_terms 0 15) refl (omega arith) (λ z. omega (arith, z)) ∙ sym (by-terms text all_lines broken e))
      (λ z. absurd (omega (arith, z))))

  module _ (t : Terms) (r : List ℕ) (e : terms_in text ≡ got t r) where
    there : r ≡ drop (length text - length r) text
    there = terms-rest text t r (terms-lines text t r e).1

    opened : valid_terms t ≡ true → lines_from text (fresh t) (length text - length r) 0 ≡ by_terms all_lines (got t r)
    opened v = rw (sym there) (simp v (lines_are t v (suc (length r)) (fresh t) opening 1 r (refinement-holds t v).opens))

    pub opened-begun : (p : Reached) → p ≡ start_of t (length text - length r) (terms_code t) → Begun text p
    unfolding transcript
    opened-begun p is =
        let q : Reached = start_of t (length text - length r) (terms_code t) in
        rw is
        (begun text q (sym (begun-as text ∙ ap (begun_by (length text)) e))
        (decide (valid_terms t)
        (λ v. events-left text q refl (code-0 t v) (omega arith) ∙ opened v)
        (λ f. refusal-left text q refl (omega arith) (λ z. omega (arith, z, code-1 t f)) ∙ ap terms_line (code-1 t f) ∙ sym (invalid t all_lines r f))
        ∙ sym (by-terms text all_lines (got t r) e))
        (λ z. (terms-lines text t r e).0))
