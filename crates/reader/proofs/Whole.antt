-- Call after call, each event of a text is read. Assumes nothing.
use Rattle.std.proofs.Common.{◌≡◌, ℕ, zero, suc, ◌-◌, ◌≤◌, ◌<◌, ◌||◌, Some, None, Ok, Err, List, [], ◌∷◌, length, drop, replicate, length-drop, drop-drop, refl, ap, ◌∙◌, arith}
use borrow.Author.Tests.{le-ltb, eq-eqb, ne_eqb}
use Rattle.terms.specs.declared.Terms.{Terms}
use Rattle.ledger.specs.declared.Refusal.TheVariants.{Form}
use Rattle.scanner.specs.Scanner.{Read, got, broken}
use Rattle.scanner.proofs.Laws.{by_read}
use Rattle.text.specs.Text.{terms_in, read_event}
use Rattle.text.proofs.Laws.{event-progress, event-rest, terms-rest, terms-lines}
use Rattle.reader.specs.declared.Reader.{Reader}
use Rattle.reader.specs.Reader.{begun_by, next_by, begun, next_of, EventAnswer, answers, answers_in, answers_after, ReadsWhole}

at : ℕ → ℕ → Reader
at place code = record { place = place; code = code }

-- ---- an ended reader answers the same again

ended : (text : List ℕ) (place : ℕ) (k : ℕ) → answers text k (at place 255) ≡ replicate k (Ok None)
unfolding answers next_of at
ended text place zero = refl
ended text place (suc k) = ap (λ (l : List EventAnswer). Ok None ∷ l) (ended text place k)

stopped : (text : List ℕ) (place : ℕ) (k : ℕ) → answers text k (at place 15) ≡ replicate k (Err Form)
unfolding answers next_of at
stopped text place zero = refl
stopped text place (suc k) = ap (λ (l : List EventAnswer). Err Form ∷ l) (stopped text place k)

-- ---- a reader that reads on, by what stands at its place

module _ (text : List ℕ) (fits : length text ≤ 65536) where
  goes : (k place : ℕ) (s : List ℕ) → place ≤ length text → s ≡ drop place text → answers text k (at place 0) ≡ answers_in k s
  unfolding answers next_of answers_in at
  goes zero place s h d = refl
  goes (suc k) place [] h d =
      let e : place ≡ length text = omega (arith, ap length d, length-drop place text) in
      simp (le-ltb 65536 (length text) fits, le-ltb (length text) place h, eq-eqb place (length text) e, ended text place k)
  goes (suc k) place (b ∷ s) h d =
      let n : length (b ∷ s) ≡ length text - place = ap length d ∙ length-drop place text in
      let before : place < length text = omega (arith, n) in
      let here : next_of text (at place 0) ≡ next_by text place (read_event (b ∷ s)) =
      simp (le-ltb 65536 (length text) fits, le-ltb (length text) place h, ne_eqb place (length text) (λ e. omega (arith, before, e)), ◌||◌, d) in
      by_read (read_event (b ∷ s))
      (λ e r g.
      let l = event-progress (b ∷ s) e r g in
      let there : r ≡ drop (length text - length r) text =
      event-rest (b ∷ s) e r g
      ∙ ap (drop (length (b ∷ s) - length r)) d
      ∙ drop-drop (length (b ∷ s) - length r) place text
      ∙ ap (λ (m : ℕ). drop m text) (omega (arith, n, l)) in
      let next = goes k (length text - length r) r (omega arith) there in
      rw (here, g, answers_in) (ap (λ (l : List EventAnswer). Ok (Some e) ∷ l) next))
      (λ g. rw (here, g, answers_in) (ap (λ (l : List EventAnswer). Err Form ∷ l) (stopped text place k)))

-- ---- a text, by what stands at its start

pub whole : ReadsWhole
unfolding begun at
whole text k = by (terms_in text) refl
  where
    by : (x : Read Terms) → terms_in text ≡ x → answers text k (begun_by text x).reader ≡ answers_after k x
    by (got t r) e = let l = terms-lines text t r e in goes text l.0 k (length text - length r) r (omega arith) (terms-rest text t r l.1)
    by broken e = stopped text 0 k
