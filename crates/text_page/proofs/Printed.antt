-- What is printed for a month, by what the call leaves. Assumes nothing.
use Prim.Native.Nat.{ℕ, ◌≤◌, ◌<◌, ◌^◌}
use native.Mathlib.Omega.{arith}
use mathlib.Core.Path.{◌≡◌, sym, ap, ◌∙◌}
use mathlib.Core.Bool.{cond}
use mathlib.Core.List.{List, [], ◌∷◌, ◌++◌}
use lib.ListN.{length, drop}
use lib.Dec.{ltb, eqb}
use borrow.Author.Tests.{le-ltb, eqb-true, ne_eqb}
use Rattle.std.proofs.lemmas.Bool.{cond-false}
use Rattle.terms.specs.declared.Terms.{Terms}
use Rattle.ledger.specs.declared.Answer.{Answer}
use Rattle.ledger.specs.declared.Event.{Event}
use Rattle.ledger.specs.declared.Summary.{Summary}
use Rattle.ledger.specs.Entries.{Entries}
use Rattle.ledger.specs.Ledger.{ledger_of}
use Rattle.account.specs.declared.Account.{Account}
use Rattle.refinement.specs.Lists.{Made}
use Rattle.ledger.specs.Months.{ledger_summary}
use Rattle.ledger.specs.Buffers.{Laid}
use Rattle.ledger.proofs.Cases.{decide}
use Rattle.printing.specs.Printing.{Whole, over}
use Rattle.scanner.specs.Scanner.{bytes}
use Rattle.printing.specs.Printing.{decimal}
use Rattle.printing.specs.Printer.{Prints}
use Rattle.printing.specs.declared.Printer.{Printer}
use Rattle.printing.proofs.Digits.{length-decimal}
use Rattle.printing.proofs.Placed.{from_start, word-last, field-then}
use Rattle.month_page.specs.declared.Line.{Line}
use Rattle.month_page.specs.Page.{lines_bytes, page_lines, laid_by}
use Rattle.month_page.specs.Record.{left, IsPage}
use Rattle.text_page.specs.TextPage.{refusal_line, month_printed}

module _ (s : Summary) (lines : List Line) (before after : List ℕ) (r : Answer) (e : left r after ≡ laid_by s lines before) where
  -- ---- what is left tells the month's code

  code-is : r.code ≡ 0 → s.code ≡ 0
  code-is z = decide (eqb s.code 0)
      (λ y. eqb-true s.code 0 y)
      (λ f. sym (simp f at (ap (λ (x : Laid). x.answer.code) e)) ∙ z)

  -- a page that is laid
  pub record IsLaid : Type 0 where
    pub code : s.code ≡ 0
    pub value : r.value ≡ length (lines_bytes lines)
    pub buffer : after ≡ lines_bytes lines ++ drop (length (lines_bytes lines)) before

  pub is-laid : r.code ≡ 0 → IsLaid
  is-laid z =
      let c = code-is z in
      decide (ltb (length before) (length (lines_bytes lines)))
      (λ y. absurd (omega (arith, z, simp (c, y) at (ap (λ (x : Laid). x.answer.code) e))))
      (λ y. record { code = c; value = simp (c, y) at (ap (λ (x : Laid). x.answer.value) e); buffer = simp (c, y) at (ap (λ (x : Laid). x.buffer) e) })

  -- one that is not, for another reason than the buffer
  pub record IsRefused : Type 0 where
    pub code : s.code ≡ r.code
    pub buffer : after ≡ before

  pub is-refused : 0 < r.code → (r.code ≡ 16 → ⊥) → IsRefused
  is-refused p n = decide (eqb s.code 0)
      (λ y. decide (ltb (length before) (length (lines_bytes lines)))
      (λ z. absurd (n (simp (y, z) at (ap (λ (x : Laid). x.answer.code) e))))
      (λ z. absurd (omega (arith, p, simp (y, z) at (ap (λ (x : Laid). x.answer.code) e)))))
      (λ f. record { code = sym (simp f at (ap (λ (x : Laid). x.answer.code) e)); buffer = simp f at (ap (λ (x : Laid). x.buffer) e) })

module _ (t : Terms) (l : Entries) (m : ℕ) where
  pub printed-page : (ledger_summary t l m).code ≡ 0 → month_printed m t l ≡ lines_bytes (page_lines t l m)
  unfolding month_printed
  printed-page z = ap (λ (n : ℕ). cond (eqb n 0) (lines_bytes (page_lines t l m)) (refusal_line n)) z

  pub printed-refusal : (code : ℕ) → (ledger_summary t l m).code ≡ code → 0 < code → month_printed m t l ≡ refusal_line code
  unfolding month_printed
  printed-refusal code e p =
      ap (λ (n : ℕ). cond (eqb n 0) (lines_bytes (page_lines t l m)) (refusal_line n)) e
      ∙ cond-false (eqb code 0) _ _ (ne_eqb code 0 (λ z. omega (arith, p, z)))

pub whole : (room : ℕ) (bytes before x after : List ℕ) (r : ℕ) → room ≤ length before → bytes ≡ x → r ≡ length x → after ≡ x ++ drop (length x) before
    → Whole room bytes before after r
whole room bytes before x after r h e n b = record {
  answer = simp (le-ltb (length before) room h) (n ∙ ap length (sym e));
  buffer = simp (le-ltb (length before) room h) (b ∙ ap (λ (y : List ℕ). y ++ drop (length y) before) (sym e));
}

-- ---- of an account that these events made

module _ (a : Account) (m : ℕ) (before after : List ℕ) (r : Answer) (t : Terms) (es : List Event) (h : Made t es a)
    (p : IsPage a m before after r) where
  abbrev l : Entries
  l = (ledger_of t es).list

  pub month-laid : r.code ≡ 0 → (r.value ≡ length (month_printed m t l)) × (after ≡ month_printed m t l ++ drop (length (month_printed m t l)) before)
  month-laid z =
      let d = is-laid (ledger_summary t l m) (page_lines t l m) before after r (p.ledgers t es h) z in
      let e = sym (printed-page t l m d.code) in
      (d.value ∙ ap length e, d.buffer ∙ ap (λ (x : List ℕ). x ++ drop (length x) before) e)

  pub month-refused : 0 < r.code → 9782 ≤ length before → (month_printed m t l ≡ refusal_line r.code) × (after ≡ before)
  month-refused z room =
      let d = is-refused (ledger_summary t l m) (page_lines t l m) before after r (p.ledgers t es h) z (λ e. omega (arith, room, p.room e)) in
      (printed-refusal t l m r.code d.code z, d.buffer)

-- ---- the line of a refusal

pub refusal-put : {p q r : Printer} (code : ℕ) → Prints p (bytes "code=" ++ decimal code) q → Prints q (bytes " value=0" ++ 10 ∷ []) r
    → p.at ≡ 0 → code < 2 ^ 64 → 34 ≤ length p.out.now
    → (r.at ≡ length (refusal_line code)) × (r.out.now ≡ refusal_line code ++ drop (length (refusal_line code)) p.out.now)
refusal-put {p} code w v z few room =
    let d = (field-then (bytes "code=") (decimal code) 20 (length-decimal code few) w 9 (word-last v) (omega (arith, z, room))).0 in (
      omega (arith, d.wrote.next, z),
      d.wrote.buffer ∙ ap (λ (k : ℕ). over p.out.now k (refusal_line code)) z ∙ from_start p.out.now (refusal_line code),
    )
