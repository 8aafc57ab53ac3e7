-- What is printed for a text, by its length and its terms: for those who cite `by_text`. Assumes nothing.
use Prim.Native.Nat.{ℕ}
use mathlib.Core.Path.{◌≡◌, refl, sym, ap, ◌∙◌}
use mathlib.Core.Bool.{Bool, true, false, cond}
use mathlib.Core.List.{List}
use native.Mathlib.Omega.{arith}
use lib.ListN.{length}
use lib.Dec.{ltb}
use Rattle.std.proofs.Common.{Result, Ok, Err}
use Rattle.terms.specs.Terms.{valid_terms, terms_code}
use Rattle.terms.specs.declared.Terms.{Terms}
use Rattle.ledger.specs.declared.Refusal.{Refusal}
use Rattle.ledger.specs.Refusals.{refusal_code, code_of}
use Rattle.ledger.proofs.Cases.{decide, positive}
use Rattle.account.specs.Step.{Opened, IsOpened}
use Rattle.account.specs.declared.Account.{Account}
use Rattle.refinement.proofs.Lists.{opened-valid}
use Rattle.scanner.specs.Scanner.{Read, got, broken}
use Rattle.text.specs.Text.{read_terms, terms_in}
use Rattle.transcript.specs.Transcript.{terms_line, by_terms, by_text}

-- ---- the terms of a text

module _ (s : List ℕ) where
  pub by-terms : (lines : Terms → List ℕ → List ℕ) (q : Read Terms) → terms_in s ≡ q → by_text lines s ≡ by_terms lines q
  by-terms lines q e = as-read (ltb 65536 (length s)) (read_terms s) ∙ ap (by_terms lines) e
    where
      as-read : (b : Bool) (x : Read Terms) → cond b (terms_line 15) (by_terms lines x) ≡ by_terms lines (cond b broken x)
      as-read true x = refl
      as-read false x = refl

-- ---- what is printed by the terms

module _ (t : Terms) where
  pub code-0 : valid_terms t ≡ true → terms_code t ≡ 0
  unfolding terms_code
  code-0 v = simp v

  pub code-1 : valid_terms t ≡ false → terms_code t ≡ 1
  unfolding terms_code
  code-1 f = simp f

  module _ (lines : Terms → List ℕ → List ℕ) (s : List ℕ) where
    pub invalid : valid_terms t ≡ false → by_terms lines (got t s) ≡ terms_line 1
    invalid f = simp f

    pub opened : (a : Account) → IsOpened t (Ok a) → by_terms lines (got t s) ≡ lines t s
    opened a is = simp (opened-valid t a is)

    pub refused : (r : Refusal) → IsOpened t (Err r) → by_terms lines (got t s) ≡ terms_line (refusal_code r)
    refused r is =
        let code : refusal_code r ≡ terms_code t = ap (λ (o : Opened). o.code) is in
        decide (valid_terms t)
        (λ v. absurd (omega (arith, positive r, code, code-0 v)))
        (λ f. invalid f ∙ ap terms_line (sym (code ∙ code-1 f)))

  -- what `open` answers
  pub refusal-is : (r : Result Account Refusal) → IsOpened t r → code_of r ≡ terms_code t
  refusal-is (Ok a) is = ap (λ (o : Opened). o.code) is
  refusal-is (Err e) is = ap (λ (o : Opened). o.code) is
