-- A piece at the start of the buffer, all pieces together, and the whole transcript. Assumes nothing.
use Prim.Native.Nat.{ℕ, suc, ◌+◌, ◌*◌, ◌-◌, ◌≤◌, ◌<◌}
use mathlib.Core.Path.{◌≡◌, refl, sym, ap, ap₂, subst, ◌∙◌}
use mathlib.Core.Bool.{true, false, cond, true≢false}
use mathlib.Core.List.{List, [], ◌++◌, append-nil}
use native.Mathlib.Nat.{zero-add}
use native.Mathlib.Omega.{arith}
use lib.ListN.{length, take, drop, take-append-drop}
use lib.Seq.{length-take-le, take_at, drop_at}
use borrow.Author.Tests.{le-ltb, le-leb, ne_eqb}
use Rattle.printing.specs.Printing.{over, Wrote}
use Rattle.printing.proofs.Placed.{from_start}
use Rattle.moves.specs.declared.Totals.{Totals}
use Rattle.ledger.proofs.Cases.{decide}
use Rattle.readings.specs.Readings.{balance_of}
use Rattle.transcript.specs.Transcript.{transcript, terms_line, WholeTranscript}
use Rattle.transcript.specs.Work.{account_line}
use Rattle.transcript.specs.Pieces.{lines_from, remaining, with_length, piece_from, piece_of, begun_of, Piece, Printed, finished, piece_then, Begun}
use Rattle.transcript.specs.Progress.{Reached}

-- ---- what is still to be printed

pub events-left : (s : List ℕ) (p : Reached) → p.done ≡ false → p.code ≡ 0 → p.count ≤ p.at → remaining s p ≡ lines_from s p.account p.at p.count
events-left s p d c h = simp (d, c, le-leb p.count p.at h)

-- terms that are malformed or refused
pub refusal-left : (s : List ℕ) (p : Reached) → p.done ≡ false → p.count ≤ p.at → (p.code ≡ 0 → ⊥) → remaining s p ≡ terms_line p.code
refusal-left s p d h n = simp (d, le-leb p.count p.at h, ne_eqb p.code 0 n)

-- ---- one piece

-- bytes written from the start of a buffer on stand there, and those past them are as they were
module _ {b x after : List ℕ} {r : ℕ} (w : Wrote b 0 x after r) where
  stands : after ≡ x ++ drop (length x) b
  stands = w.buffer ∙ from_start b x

  counts : length x ≡ r
  counts = omega (arith, w.next)

  front : take r after ≡ x
  front = ap (take r) stands ∙ take_at x (drop (length x) b) r counts

  past : drop r after ≡ drop r b
  past = ap (drop r) stands ∙ drop_at x (drop (length x) b) r counts ∙ ap (λ (k : ℕ). drop k b) counts

-- the totals of no account
abbrev pub no-totals : Totals
no-totals = record { credit = 0; debit = 0; plan = 0; standing = 0; count = 0; events = 0; last = 0; on = false }

pub nothing_written : (b : List ℕ) → Wrote b 0 [] b 0
unfolding over
nothing_written b = record { buffer = refl; next = refl; room = omega arith }

pub piece-of : (s : List ℕ) (p q : Reached) {b x after : List ℕ} → q ≡ piece_of s p (length b) → Wrote b 0 x after q.length → remaining s p ≡ x ++ remaining s q
    → (q.done ≡ false → (p.code ≡ 0) × (p.at < q.at) × (q.at ≤ length s) × (length b < q.length + 174) × (q.length ≤ 9 * q.at))
    → Piece s p b after q
piece-of s p q {b} {x} {after} is w e m = record {
  progress = is;
  lines = e ∙ ap (λ (l : List ℕ). l ++ remaining s q) (sym (front w));
  others = past w;
  inside = omega (arith, w.room, w.next);
  more = λ h. m;
}

-- the buffer that is left is the printer's
pub in-buffer : {s : List ℕ} {p q : Reached} {b : List ℕ} (out : List ℕ) {last : List ℕ} → last ≡ out → Piece s p b out q → Piece s p b last q
in-buffer {s} {p} {q} {b} out e m = subst (λ (l : List ℕ). Piece s p b l q) (sym e) m

-- the line of terms that are malformed or refused
pub refusal-line : (code : ℕ) → account_line 0 code 0 no-totals ≡ terms_line code
unfolding balance_of
refusal-line code = refl

pub refused : (s : List ℕ) (p : Reached) {b after : List ℕ} {r : ℕ} → p.done ≡ false → p.count ≤ p.at → (p.code ≡ 0 → ⊥) → 174 ≤ length b
    → Wrote b 0 (terms_line p.code) after r → Piece s p b after (with_length p r true)
refused s p {b} {after} {r} d h n roomy w =
    piece-of s p (with_length p r true)
    (simp (le-ltb (length b) 174 roomy, d, le-ltb p.at p.count h, ne_eqb p.code 0 n) (ap (λ (k : ℕ). with_length p k true) (w.next ∙ zero-add (length (terms_line p.code)))))
    w
    (refusal-left s p d h n ∙ sym (append-nil (terms_line p.code)))
    (λ g. absurd (true≢false g))

-- ---- how far a piece goes, by where it stands

pub by-events : (s : List ℕ) (p : Reached) (room : ℕ) → p.done ≡ false → p.code ≡ 0 → p.count ≤ p.at → 174 ≤ room
    → piece_of s p room ≡ piece_from room s p.account p.at p.count 0
by-events s p room d c h roomy = simp (le-ltb room 174 roomy, d, le-ltb p.at p.count h, c)

-- ---- all pieces

printed : (s : List ℕ) (p : Reached) (w : List ℕ) → Printed s p w → w ≡ remaining s p
printed s _ _ (finished p h) = sym (simp h)
printed s _ _ (piece_then p q before after v m more) = ap (λ (x : List ℕ). take q.length after ++ x) (printed s q v more) ∙ sym m.lines

pub begun : (s : List ℕ) (p : Reached) → p ≡ begun_of s → remaining s p ≡ transcript s → (p.code ≡ 0 → length s ≤ 65536) → Begun s p
begun s p is e l = record { progress = is; all = e; pieces = λ w x. printed s p w x ∙ e; bounded = l }

-- ---- the whole

module _ (s before after : List ℕ) (p q : Reached) (begins : Begun s p) (m : Piece s p before after q) (roomy : 655360 ≤ length before) (sized : length after ≡ length before) where
  over-at-once : q.done ≡ true
  over-at-once = decide q.done (λ t. t) (λ f. let g = m.more (omega arith) f in absurd (omega (arith, begins.bounded g.0, g.1)))

  all : transcript s ≡ take q.length after
  all = sym begins.all ∙ m.lines ∙ ap (λ (x : List ℕ). take q.length after ++ x) (simp over-at-once) ∙ append-nil (take q.length after)

  long : q.length ≡ length (transcript s)
  long = sym (ap length all ∙ length-take-le q.length after (omega (arith, m.inside)))

  pub whole : WholeTranscript s before after q.length
  whole = record {
    answer = simp (le-ltb (length before) 655360 roomy) long;
    buffer = simp (le-ltb (length before) 655360 roomy)
        (sym (take-append-drop q.length after) ∙ ap₂ ◌++◌ (sym all) (m.others ∙ ap (λ (k : ℕ). drop k before) long));
  }

-- ---- piece after piece comes to an end

-- the bytes that are still to be read, and one more; none after the last piece
abbrev pub unread : List ℕ → Reached → ℕ
unread s p = cond p.done 0 (suc (length s - p.at))
