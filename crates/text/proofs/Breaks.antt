-- A text's events, counted down from the number of bytes; and its form, by what is read of it. Assumes nothing.
use Rattle.std.proofs.Common.{◌≡◌, ℕ, zero, suc, ◌+◌, ◌≤◌, ◌<◌, List, [], ◌∷◌, length, refl, ◌∙◌, arith}
use borrow.Author.Tests.{le-ltb, lt-ltb}
use Rattle.terms.specs.declared.Terms as terms
use Rattle.ledger.specs.declared.Event as ledger
use Rattle.scanner.specs.Scanner.{got, broken}
use Rattle.scanner.proofs.Laws.{by_read}
use Rattle.text.specs.Text.{read_terms, read_event}
use Rattle.text.specs.declared.Form.TheVariants.{Sound, TooLong, Terms, Event}
use Rattle.text.specs.Form.{line_of, events_by, events_in, events_form, form_of}
use Rattle.text.proofs.Laws.{event-progress}

module _ (text : List ℕ) where
  -- ---- the events

  -- however many events it may count
  uncounted : (k m n : ℕ) (s : List ℕ) → length s < k → length s < m → events_in k text n s ≡ events_in m text n s
  unfolding events_in
  uncounted zero m n s h g = absurd (omega arith)
  uncounted (suc k) zero n s h g = absurd (omega arith)
  uncounted (suc k) (suc m) n [] h g = refl
  uncounted (suc k) (suc m) n (b ∷ s) h g =
      by_read (read_event (b ∷ s))
      (λ e r q. let l = event-progress (b ∷ s) e r q in rw (q, events_by) (uncounted k m (n + 1) r (omega (arith, h, l)) (omega (arith, g, l))))
      (λ q. rw (q, events_by) refl)

  pub suffices : (n : ℕ) (s : List ℕ) → events_form text n s ≡ events_by (events_form text) text n s
  unfolding events_in
  suffices n [] = refl
  suffices n (b ∷ s) =
      by_read (read_event (b ∷ s))
      (λ e r q. let l = event-progress (b ∷ s) e r q in rw (q, events_by) (uncounted (length (b ∷ s)) (suc (length r)) (n + 1) r (omega (arith, l)) (omega arith)))
      (λ q. rw (q, events_by) refl)

  -- ---- what is left, by what is read there

  module _ (n : ℕ) where
    pub at_end : (s : List ℕ) → length s ≡ 0 → events_form text n s ≡ Sound
    at_end [] h = suffices n []
    at_end (b ∷ s) h = absurd (omega arith)

    pub event_more : (s r : List ℕ) (e : ledger.Event) → 0 < length s → read_event s ≡ got e r → events_form text n s ≡ events_form text (n + 1) r
    event_more [] r e h q = absurd (omega arith)
    event_more (b ∷ s) r e h q = suffices n (b ∷ s) ∙ rw (q, events_by) refl

    pub event_breaks : (s : List ℕ) → 0 < length s → read_event s ≡ broken → events_form text n s ≡ Event n (line_of text s)
    event_breaks [] h q = absurd (omega arith)
    event_breaks (b ∷ s) h q = suffices n (b ∷ s) ∙ rw (q, events_by) refl

  -- ---- a whole text

  pub too_long : 65536 < length text → form_of text ≡ TooLong
  unfolding form_of
  too_long h = simp (lt-ltb 65536 (length text) h)

  module _ (h : length text ≤ 65536) where
    pub terms_break : read_terms text ≡ broken → form_of text ≡ Terms
    unfolding form_of
    terms_break q = simp (le-ltb 65536 (length text) h, q)

    pub terms_read : (t : terms.Terms) (r : List ℕ) → read_terms text ≡ got t r → form_of text ≡ events_form text 1 r
    unfolding form_of
    terms_read t r q = simp (le-ltb 65536 (length text) h, q)
