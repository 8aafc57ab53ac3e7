-- Counting events down from the number of bytes is enough, since an event takes bytes. Assumes nothing.
use Prim.Native.Nat.{ℕ, ◌+◌, ◌-◌, ◌≤◌, ◌<◌}
use mathlib.Core.Path.{◌≡◌, refl, sym, ap, ◌∙◌}
use mathlib.Core.Bool.{true, false}
use mathlib.Core.List.{List, [], ◌∷◌}
use native.Mathlib.Omega.{arith}
use lib.ListN.{length, drop, length-drop}
use lib.Dec.{leb, ltb}
use borrow.Author.Tests.{le-leb, lt-leb, lt-ltb, le-ltb, leb-true, leb-false, ltb-true, ltb-false}
use Rattle.ledger.specs.declared.Event.{Event}
use Rattle.ledger.proofs.Cases.{decide}
use Rattle.account.specs.Step.{step_of}
use Rattle.account.specs.declared.Account.{Account}
use Rattle.scanner.specs.Scanner.{got, broken}
use Rattle.scanner.proofs.Laws.{by_read}
use Rattle.text.specs.Text.{read_event}
use Rattle.text.proofs.Laws.{event-progress}
use Rattle.printing.proofs.Counts.{uncounted}
use Rattle.transcript.specs.Events.{Fold, fold_by, fold_in}
use Rattle.transcript.specs.Transcript.{ledger_lines}
use Rattle.transcript.specs.Work.{account_line, account_last_line, account_lines}
use Rattle.transcript.specs.Pieces.{among_events, piece_by, events_piece}
use Rattle.transcript.specs.Counts.{FoldSuffices, CountsSuffice}
use Rattle.transcript.specs.Progress.{Reached}

-- ---- what is made of the events, by what stands there

module _ {S Y : Type 0} (w : Fold S Y) (more : S → List ℕ → Y) (x : S) where
  pub fold-got : (s r : List ℕ) (e : Event) → 0 < length s → read_event s ≡ got e r → fold_by w more x s ≡ w.event x e (more (w.step x e) r)
  fold-got [] r e h g = absurd (omega arith)
  fold-got (b ∷ s) r e h g = rw (g, fold_by)

  pub fold-broken : (s : List ℕ) → 0 < length s → read_event s ≡ broken → fold_by w more x s ≡ w.malformed x
  fold-broken [] h g = absurd (omega arith)
  fold-broken (b ∷ s) h g = rw (g, fold_by)

  pub fold_end : (s : List ℕ) → length s ≡ 0 → fold_by w more x s ≡ w.end x
  fold_end [] h = refl
  fold_end (b ∷ s) h = absurd (omega arith)

-- ---- how far a piece goes, by what stands there

module _ (more : Account → ℕ → ℕ → ℕ → Reached) (room : ℕ) (s : List ℕ) (a : Account) (at count n : ℕ) where
  pub piece-end : length s ≤ at → piece_by more room s a at count n ≡ among_events a at count (n + length (account_last_line a.totals)) true
  piece-end h = simp (le-leb (length s) at h)

  module _ (h : at < length s) where
    pub piece-pause : room - n < 174 → piece_by more room s a at count n ≡ among_events a at count n false
    piece-pause l = simp (lt-leb (length s) at h, lt-ltb (room - n) 174 l)

    module _ (l : 174 ≤ room - n) where
      pub piece-broken : read_event (drop at s) ≡ broken
          → piece_by more room s a at count n ≡ among_events a at count (n + length (account_line (count + 1) 15 0 a.totals) + length (account_last_line a.totals)) true
      piece-broken g = simp (lt-leb (length s) at h, le-ltb (room - n) 174 l, g)

      pub piece-got : (e : Event) (r : List ℕ) → read_event (drop at s) ≡ got e r
          → piece_by more room s a at count n
          ≡ more (step_of a e).account (length s - length r) (count + 1) (n + length (account_line (count + 1) (step_of a e).code (step_of a e).value (step_of a e).account.totals))
      piece-got e r g = simp (lt-leb (length s) at h, le-ltb (room - n) 174 l, g)

-- ---- they go by what follows in fewer bytes alone

fold-local : {S Y : Type 0} (w : Fold S Y) (f g : S → List ℕ → Y) (x : S) (s : List ℕ)
    → ((y : S) (r : List ℕ) → length r < length s → f y r ≡ g y r) → fold_by w f x s ≡ fold_by w g x s
fold-local w f g x [] h = refl
fold-local w f g x (b ∷ s) h = by_read (read_event (b ∷ s))
    (λ e r q.
    fold-got w f x (b ∷ s) r e (omega arith) q
    ∙ ap (w.event x e) (h (w.step x e) r (omega (arith, event-progress (b ∷ s) e r q)))
    ∙ sym (fold-got w g x (b ∷ s) r e (omega arith) q))
    (λ q. fold-broken w f x (b ∷ s) (omega arith) q ∙ sym (fold-broken w g x (b ∷ s) (omega arith) q))

piece-local : (f g : Account → ℕ → ℕ → ℕ → Reached) (room : ℕ) (s : List ℕ) (a : Account) (at count n : ℕ)
    → ((b : Account) (x i m : ℕ) → length s - x < length s - at → f b x i m ≡ g b x i m) → piece_by f room s a at count n ≡ piece_by g room s a at count n
piece-local f g room s a at count n h = decide (leb (length s) at)
    (λ y. let e = leb-true (length s) at y in piece-end f room s a at count n e ∙ sym (piece-end g room s a at count n e))
    (λ z. let m = leb-false (length s) at z in
    decide (ltb (room - n) 174)
    (λ y. let l = ltb-true (room - n) 174 y in piece-pause f room s a at count n m l ∙ sym (piece-pause g room s a at count n m l))
    (λ o. let l = ltb-false (room - n) 174 o in
    by_read (read_event (drop at s))
    (λ e r q.
    piece-got f room s a at count n m l e r q
    ∙ h (step_of a e).account (length s - length r) (count + 1) _ (omega (arith, event-progress (drop at s) e r q, length-drop at s))
    ∙ sym (piece-got g room s a at count n m l e r q))
    (λ q. piece-broken f room s a at count n m l q ∙ sym (piece-broken g room s a at count n m l q))))

-- ---- so the counts are enough

pub fold-suffices : {S Y : Type 0} (w : Fold S Y) → FoldSuffices w
unfolding fold_in
fold-suffices {S} {Y} w x s =
    uncounted {X = S × List ℕ} {Y = Y} (λ z. length z.1)
    (λ f z. fold_by w (λ (y : S) (r : List ℕ). f (y, r)) z.0 z.1)
    (λ k z. fold_in w k z.0 z.1)
    (λ k z. refl)
    (λ f g z h. fold-local w (λ (y : S) (r : List ℕ). f (y, r)) (λ (y : S) (r : List ℕ). g (y, r)) z.0 z.1 (λ y r l. h (y, r) l))
    (x, s)

pub counts-suffice : CountsSuffice
unfolding events_piece
counts-suffice = record {
  progress = λ s r e g. omega (arith, event-progress s e r g);
  ledger-lines = λ t. fold-suffices (ledger_lines t);
  account-lines = fold-suffices account_lines;
  pieces = λ room s a at count n.
      uncounted {X = Account × ℕ × ℕ × ℕ} {Y = Reached} (λ x. length s - x.1)
      (λ f x. piece_by (λ (b : Account) (y i m : ℕ). f (b, y, i, m)) room s x.0 x.1 x.2 x.3)
      (λ k x. events_piece k room s x.0 x.1 x.2 x.3)
      (λ k x. refl)
      (λ f g x h. piece-local (λ (b : Account) (y i m : ℕ). f (b, y, i, m)) (λ (b : Account) (y i m : ℕ). g (b, y, i, m)) room s x.0 x.1 x.2 x.3 (λ b y i m l. h (b, y, i, m) l))
      (a, at, count, n);
}
