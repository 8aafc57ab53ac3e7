-- The transcript in pieces: what is still to be printed, how far a piece goes, and what a call leaves.
use Rattle.std.specs.Prelude.{ℕ, zero, suc, ◌+◌, ◌*◌, ◌-◌, ◌≤◌, ◌<◌, ◌≡◌, Bool, true, false, cond, not, ◌&&◌, List, [], ◌++◌, length, take, drop, eqb, leb, ltb}
use Rattle.terms.specs.Terms.{zero_terms}
use Rattle.terms.specs.declared.Terms.{Terms}
use Rattle.account.specs.Step.{step_of, open_of}
use Rattle.account.specs.declared.Account.{Account}
use Rattle.scanner.specs.Scanner.{got, broken}
use Rattle.text.specs.Text.{max_text, read_terms, read_event}
use Rattle.transcript.specs.Transcript.{terms_line, transcript}
use Rattle.transcript.specs.Events.{fold_events}
use Rattle.transcript.specs.Work.{account_line, account_last_line, account_lines}
use Rattle.transcript.specs.Progress.{Reached}

-- ---- what is still to be printed

-- the lines of the events from a place of the text on, and the last line
abbrev pub lines_from : List ℕ → Account → ℕ → ℕ → List ℕ
lines_from s a at count = fold_events account_lines (a, count + 1) (drop at s)

-- Whether there is more to print. No call leaves more events than bytes; where there are more, nothing is printed.
abbrev pub unprinted : Reached → Bool
unprinted p = not p.done && leb p.count p.at

abbrev pub remaining : List ℕ → Reached → List ℕ
remaining s p = cond (unprinted p) (cond (eqb p.code 0) (lines_from s p.account p.at p.count) (terms_line p.code)) []

-- ---- how far a piece goes

abbrev pub progress_of : Account → ℕ → ℕ → ℕ → ℕ → Bool → Reached
progress_of a at count code n done = record { account = a; at = at; count = count; code = code; length = n; done = done }

-- the place of p, with n bytes put
abbrev pub with_length : Reached → ℕ → Bool → Reached
with_length p n done = progress_of p.account p.at p.count p.code n done

-- a place among the events after good terms, with n bytes put
abbrev pub among_events : Account → ℕ → ℕ → ℕ → Bool → Reached
among_events a at count n done = progress_of a at count 0 n done

-- the bytes that an event's line has at most, that the last line has at most, and that both have
abbrev pub event_room : ℕ
event_room = 114

abbrev pub last_room : ℕ
last_room = 60

abbrev pub piece_room : ℕ
piece_room = event_room + last_room

-- From a place of the text on, in a buffer of `room` bytes, n of them used: lines of events while there is room for one and for the last
-- line; by `more`, how far it goes from the next event on.
abbrev pub piece_by : (Account → ℕ → ℕ → ℕ → Reached) → ℕ → List ℕ → Account → ℕ → ℕ → ℕ → Reached
piece_by more room s a at count n =
    cond (leb (length s) at) (among_events a at count (n + length (account_last_line a.totals)) true)
    (cond (ltb (room - n) piece_room) (among_events a at count n false)
    (elim (read_event (drop at s)) [
      | got e r ↦ more (step_of a e).account (length s - length r) (count + 1)
          (n + length (account_line (count + 1) (step_of a e).code (step_of a e).value (step_of a e).account.totals))
      | broken ↦ among_events a at count (n + length (account_line (count + 1) 15 0 a.totals) + length (account_last_line a.totals)) true
    ]))

-- the same, cut off after k events
unfoldable pub events_piece : ℕ → ℕ → List ℕ → Account → ℕ → ℕ → ℕ → Reached
events_piece zero room s a at count n = among_events a at count n true
events_piece (suc k) room s a at count n = piece_by (events_piece k room s) room s a at count n

-- There are no more events than bytes, so nothing is cut off: `transcript::counts_suffice`.
abbrev pub piece_from : ℕ → List ℕ → Account → ℕ → ℕ → ℕ → Reached
piece_from room s a at count n = events_piece (suc (length s - at)) room s a at count n

-- the progress after the next piece, in a buffer of `room` bytes
abbrev pub piece_of : List ℕ → Reached → ℕ → Reached
piece_of s p room =
    cond (ltb room piece_room) (with_length p 0 p.done)
    (cond p.done (with_length p 0 p.done)
    (cond (ltb p.at p.count) (with_length p 0 true)
    (cond (eqb p.code 0) (piece_from room s p.account p.at p.count 0)
    (with_length p (length (terms_line p.code)) true))))

-- What a call leaves. The first three clauses fix it: the progress after it, the bytes put, which are the next of those still to be printed,
-- and the bytes past them. The others follow.
pub record Piece (s : List ℕ) (p : Reached) (before after : List ℕ) (q : Reached) : Type 0 where
  pub progress : q ≡ piece_of s p (length before)
  -- the piece, and what is still to be printed after it, are what was still to be printed
  pub lines : remaining s p ≡ take q.length after ++ remaining s q
  -- the bytes past the piece are as they were
  pub others : drop q.length after ≡ drop q.length before
  pub inside : q.length ≤ length before
  -- In a buffer with room for a piece, one that is not the last is of good terms, reads on within the text, leaves no room for another line and
  -- the last, and has at most 9 bytes for each byte of the text up to where it ends: so `transcript_room` holds any transcript.
  pub more : piece_room ≤ length before → q.done ≡ false
      → (p.code ≡ 0) × (p.at < q.at) × (q.at ≤ length s) × (length before < q.length + piece_room) × (q.length ≤ 9 * q.at)

-- ---- from the first piece to the last

abbrev pub start_of : Terms → ℕ → ℕ → Reached
start_of t at code = progress_of (open_of t).account at 0 code 0 false

-- the progress before the first piece
abbrev pub begun_of : List ℕ → Reached
begun_of s = cond (ltb max_text (length s)) (start_of zero_terms 0 15)
    (elim (read_terms s) [
      | got t r ↦ start_of t (length s - length r) (open_of t).code
      | broken ↦ start_of zero_terms 0 15
    ])

-- The pieces printed one after the other, in whatever buffers, until there is no more to print.
pub data Printed (s : List ℕ) : Reached → List ℕ → Type 0 where
  finished : (p : Reached) → unprinted p ≡ false → Printed s p []
  piece_then : (p q : Reached) (before after w : List ℕ) → Piece s p before after q → Printed s q w → Printed s p (take q.length after ++ w)

-- What `begin` answers, and what follows: the whole transcript is still to be printed, and whatever the pieces are, together they are it.
pub record Begun (s : List ℕ) (p : Reached) : Type 0 where
  pub progress : p ≡ begun_of s
  pub all : remaining s p ≡ transcript s
  pub pieces : (w : List ℕ) → Printed s p w → w ≡ transcript s
  pub bounded : p.code ≡ 0 → length s ≤ max_text
