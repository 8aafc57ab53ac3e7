-- The loop over the events: what it keeps, one turn, and how it ends. Assumes nothing.
use Prim.Native.Nat.{ℕ, ◌+◌, ◌*◌, ◌-◌, ◌≤◌, ◌<◌}
use mathlib.Core.Path.{◌≡◌, refl, sym, ap, ap₂, subst, ◌∙◌}
use mathlib.Core.Bool.{Bool, true, false, true≢false}
use mathlib.Core.List.{List, [], ◌++◌, append_assoc, append-nil}
use native.Mathlib.Omega.{arith}
use lib.ListN.{length, take, drop, length-drop}
use lib.Seq.{drop-drop}
use Rattle.ledger.specs.declared.Event.{Event}
use Rattle.account.specs.Step.{Stepped, step_of}
use Rattle.account.specs.declared.Account.{Account}
use Rattle.scanner.specs.Scanner.{got, broken}
use Rattle.text.specs.Text.{read_event}
use Rattle.text.proofs.Laws.{event-progress, event-rest}
use Rattle.printing.specs.Printing.{Wrote}
use Rattle.printing.proofs.Placed.{kept, wrote_then}
use Rattle.transcript.specs.Events.{fold_by, fold_events}
use Rattle.transcript.specs.Work.{account_line, account_last_line, account_lines}
use Rattle.transcript.specs.Pieces.{lines_from, remaining, among_events, piece_by, piece_from, Piece}
use Rattle.std.proofs.Common.{take_all}
use Rattle.transcript.specs.declared.Progress.{Progress}
use Rattle.transcript.specs.Progress.{Reached, reached}
use Rattle.transcript.proofs.Whole.{nothing_written, piece-of, events-left, by-events}
use Rattle.transcript.proofs.Counts.{fold-got, fold-broken, fold_end, piece-end, piece-pause, piece-broken, piece-got, counts-suffice}

-- ---- what the loop keeps

-- The lines written so far, and those left, are those that were left before the piece.
pub record Going (text : List ℕ) (a : Account) (start k : ℕ) (first out : List ℕ) (b : Account) (at count place : ℕ) : Type 0 where
  pub counted : count ≤ at
  pub from : start ≤ at
  pub low : place ≤ 9 * at
  pub room : place + 60 ≤ length out
  pub moved : 0 < place → (start < at) × (at ≤ length text)
  pub lines : List ℕ
  pub wrote : Wrote first 0 lines out place
  pub goal : lines_from text a start k ≡ lines ++ lines_from text b at count
  pub far : piece_from (length first) text a start k 0 ≡ piece_from (length first) text b at count place

pub begins : (text : List ℕ) (a : Account) (at count : ℕ) (first : List ℕ) → 174 ≤ length first → count ≤ at → Going text a at count first first a at count 0
begins text a at count first roomy h = record {
  counted = h;
  from = omega arith;
  low = omega arith;
  room = omega arith;
  moved = λ z. absurd (omega arith);
  lines = [];
  wrote = nothing_written first;
  goal = refl;
  far = refl;
}

module _ (text : List ℕ) (a : Account) (start k : ℕ) (first out : List ℕ) (b : Account) (at count place : ℕ) (g : Going text a start k first out b at count place) where
  pub sized : length out ≡ length first
  sized = kept g.wrote

  -- more lines written, and what is left then
  then-left : (more left : List ℕ) → lines_from text b at count ≡ more ++ left → lines_from text a start k ≡ (g.lines ++ more) ++ left
  then-left more left e = g.goal ∙ ap (λ (x : List ℕ). g.lines ++ x) e ∙ sym (append_assoc g.lines more left)

  some : at < length text → 0 < length (drop at text)
  some h = rw (length-drop at text) (omega arith)

  pub turns : (e : Event) (next : ℕ) (q : Stepped) (after : List ℕ) (r : ℕ) → at < length text
      → read_event (drop at text) ≡ got e (drop next text) → at + 14 ≤ next → next ≤ length text → 174 ≤ length out - place
      → q ≡ step_of b e → Wrote out place (account_line (count + 1) q.code q.value q.account.totals) after r → r ≤ place + 114
      → Going text a start k first after q.account next (count + 1) r
  turns e next q after r h g' far within roomy eq w short = record {
    counted = omega (arith, g.counted);
    from = omega (arith, g.from);
    low = omega (arith, g.low);
    room = omega (arith, kept w);
    moved = λ z. (omega (arith, g.from), within);
    lines = g.lines ++ account_line (count + 1) q.code q.value q.account.totals;
    wrote = wrote_then g.wrote w;
    goal = then-left (account_line (count + 1) q.code q.value q.account.totals) (lines_from text q.account next (count + 1)) line-by-line;
    far = g.far ∙ line-further;
  }
    where
      bytes : Stepped → ℕ
      bytes p = length (account_line (count + 1) p.code p.value p.account.totals)

      line-further : piece_from (length first) text b at count place ≡ piece_from (length first) text q.account next (count + 1) r
      line-further =
          let there : length text - length (drop next text) ≡ next = rw (length-drop next text) (omega arith) in
          let put : place + bytes (step_of b e) ≡ r = ap (λ (p : Stepped). place + bytes p) (sym eq) ∙ sym w.next in
          counts-suffice.pieces (length first) text b at count place
          ∙ piece-got (piece_from (length first) text) (length first) text b at count place h (omega (arith, sized)) e (drop next text) g'
          ∙ ap₂ (λ (x y : ℕ). piece_from (length first) text (step_of b e).account x (count + 1) y) there put
          ∙ ap (λ (p : Stepped). piece_from (length first) text p.account next (count + 1) r) (sym eq)

      line-by-line : lines_from text b at count ≡ account_line (count + 1) q.code q.value q.account.totals ++ lines_from text q.account next (count + 1)
      line-by-line = rw eq
          (counts-suffice.account-lines (b, count + 1) (drop at text)
          ∙ fold-got account_lines (fold_events account_lines) (b, count + 1) (drop at text) (drop next text) e (some h) g')

-- ---- how it ends

module _ (text : List ℕ) (p : Reached) (first out : List ℕ) (b : Account) (at count place : ℕ) (g : Going text p.account p.at p.count first out b at count place)
    (d : p.done ≡ false) (c : p.code ≡ 0) (counted : p.count ≤ p.at) (roomy : 174 ≤ length first) where
  left-then : (more left : List ℕ) → lines_from text b at count ≡ more ++ left → remaining text p ≡ (g.lines ++ more) ++ left
  left-then more left e = events-left text p d c counted ∙ then-left text p.account p.at p.count first out b at count place g more left e

  -- there is no room for another line
  pub pauses : at < length text → length out - place < 174 → Piece text p first out (among_events b at count place false)
  pauses l h =
      let same : length out ≡ length first = kept g.wrote in
      let far = g.moved (omega arith) in
      let q : Reached = among_events b at count place false in
      piece-of text p q
      (sym (by-events text p (length first) d c counted roomy ∙ g.far ∙ counts-suffice.pieces (length first) text b at count place ∙ piece-pause (piece_from (length first) text) (length first) text b at count place l (omega arith)))
      g.wrote
      (events-left text p d c counted ∙ g.goal ∙ ap (λ (x : List ℕ). g.lines ++ x) (sym (events-left text q refl refl g.counted)))
      (λ f. (c, far.0, far.1, omega arith, g.low))

  -- the last piece
  module _ (after more : List ℕ) (r : ℕ) (w : Wrote out place more after r) (e : fold_by account_lines (fold_events account_lines) (b, count + 1) (drop at text) ≡ more)
      (f : piece_by (piece_from (length first) text) (length first) text b at count place ≡ among_events b at count r true) where
    closes : Piece text p first after (among_events b at count r true)
    closes = piece-of text p (among_events b at count r true) (sym (by-events text p (length first) d c counted roomy ∙ g.far ∙ counts-suffice.pieces (length first) text b at count place ∙ f)) (wrote_then g.wrote w)
        (left-then more [] (counts-suffice.account-lines (b, count + 1) (drop at text) ∙ e ∙ sym (append-nil more))) (λ x. absurd (true≢false x))

  pub stops : (mid after : List ℕ) (r q : ℕ) → at < length text → 174 ≤ length out - place → read_event (drop at text) ≡ broken
      → Wrote out place (account_line (count + 1) 15 0 b.totals) mid r → Wrote mid r (account_last_line b.totals) after q
      → Piece text p first after (among_events b at count q true)
  stops mid after r q h l g' w v =
      let same : length out ≡ length first = kept g.wrote in
      closes after _ q (wrote_then w v)
      (fold-broken account_lines (fold_events account_lines) (b, count + 1) (drop at text) (rw (length-drop at text) (omega arith)) g')
      (piece-broken (piece_from (length first) text) (length first) text b at count place h (omega arith) g'
      ∙ ap (λ (n : ℕ). among_events b at count n true) (sym (v.next ∙ ap (λ (n : ℕ). n + length (account_last_line b.totals)) w.next)))

  pub ends : (after : List ℕ) (q : ℕ) → length text ≤ at → Wrote out place (account_last_line b.totals) after q
      → Piece text p first after (among_events b at count q true)
  ends after q h w = closes after _ q w
      (fold_end account_lines (fold_events account_lines) (b, count + 1) (drop at text) (rw (length-drop at text) (omega arith)))
      (piece-end (piece_from (length first) text) (length first) text b at count place h ∙ ap (λ (n : ℕ). among_events b at count n true) (sym w.next))

-- room for the last line after the line of an event that breaks the form
pub room_left : {out mid x : List ℕ} {place r : ℕ} → 174 ≤ length out - place → Wrote out place x mid r → r ≤ place + 114 → r + 60 ≤ length mid
room_left h w u = omega (arith, kept w)

-- the text from a place on, as a slice
pub from-place : (text : List ℕ) (at : ℕ) → take (length text - at) (drop at text) ≡ drop at text
from-place text at = take_all (length text - at) (drop at text) (omega (arith, length-drop at text))

-- where the next event starts
pub next-event : (text : List ℕ) (at : ℕ) (e : Event) (r : List ℕ) → at < length text → read_event (drop at text) ≡ got e r → read_event (drop at text) ≡ got e (drop (length text - length r) text)
next-event text at e r h g =
    let there : r ≡ drop (length text - length r) text =
    event-rest (drop at text) e r g
    ∙ drop-drop (length (drop at text) - length r) at text
    ∙ ap (λ (k : ℕ). drop k text) (omega (arith, length-drop at text, event-progress (drop at text) e r g)) in
    rw there at g

-- the progress that is left is the loop's
pub left-as : {text : List ℕ} {p : Reached} {first out : List ℕ} (b : Progress) (n : ℕ) (done : Bool) → b.code ≡ 0 → b.done ≡ done
    → Piece text p first out (among_events b.account b.at b.count n done) → Piece text p first out (reached b n)
left-as {text} {p} {first} {out} b n done none d m =
    let is : reached b n ≡ among_events b.account b.at b.count n done = ap₂ (λ (k : ℕ) (x : Bool). reached (record b { code = k; done = x }) n) none d in
    subst (λ (r : Reached). Piece text p first out r) (sym is) m

-- how many bytes the piece before had tells nothing of the next
pub any-length : {text : List ℕ} (p : Progress) {first out : List ℕ} (q : Reached) (n : ℕ) → Piece text (reached p 0) first out q → Piece text (reached p n) first out q
any-length p q n r = record { progress = r.progress; lines = r.lines; others = r.others; inside = r.inside; more = r.more }
