-- What `prepay` prints, as a definition of the bytes it was given, in the ledger's terms (document 01, "Event text").
use Rattle.std.specs.Prelude.{ℕ, ◌+◌, cond, List, [], ◌∷◌, ◌++◌, length, ltb, ℤ, pos}
use Rattle.terms.specs.Terms.{valid_terms}
use Rattle.terms.specs.declared.Terms.{Terms}
use Rattle.ledger.specs.declared.Event.{Event}
use Rattle.ledger.specs.Rules.{Ledger}
use Rattle.ledger.specs.Ledger.{opening, ledger_step}
use Rattle.ledger.specs.Sums.{settled, standing_cost}
use Rattle.scanner.specs.Scanner.{bytes, feed, Read, got, broken}
use Rattle.text.specs.Text.{max_text, read_terms}
use Rattle.printing.specs.Printing.{decimal, signed, Whole}
use Rattle.transcript.specs.Events.{Fold, fold_events}

-- "per event its ordinal, code, value, then B and R after it"
unfoldable pub event_line : ℕ → ℕ → ℕ → ℤ → ℕ → List ℕ
event_line n code value balance plan =
    bytes "n=" ++ (decimal n
    ++ (bytes " code=" ++ (decimal code
    ++ (bytes " value=" ++ (decimal value
    ++ (bytes " balance=" ++ (signed balance
    ++ (bytes " plan=" ++ (decimal plan ++ feed ∷ [])))))))))

-- "a last line with the settled amount and the cost of the standing estimates"
unfoldable pub last_line : ℤ → ℕ → List ℕ
last_line sum cost = bytes "settled=" ++ (signed sum ++ (bytes " estimates=" ++ (decimal cost ++ feed ∷ [])))

-- The lines of events with their ordinals, by what each is answered and by the state after it, and the last line. "Code 15 prints its line
-- and no more is read, then the last line."
abbrev pub lines_fold : {S : Type 0} → (S → Event → S) → (S → Event → ℕ) → (S → Event → ℕ) → (ℕ → ℕ → ℕ → S → List ℕ) → (S → List ℕ) → Fold (S × ℕ) (List ℕ)
lines_fold {S} step code value line last = record {
  step = λ (x : S × ℕ) (e : Event). (step x.0 e, x.1 + 1);
  event = λ (x : S × ℕ) (e : Event) (more : List ℕ). line x.1 (code x.0 e) (value x.0 e) (step x.0 e) ++ more;
  malformed = λ (x : S × ℕ). line x.1 15 0 x.0 ++ last x.0;
  end = λ (x : S × ℕ). last x.0;
}

-- the line of an event, by the ledger after it
abbrev pub ledger_line : ℕ → ℕ → ℕ → Ledger → List ℕ
ledger_line n code value l = event_line n code value l.balance l.plan

-- the last line, by the ledger
abbrev pub ledger_last_line : Terms → Ledger → List ℕ
ledger_last_line t l = last_line (settled t l.list) (standing_cost t l.list)

-- the lines of events by the ledger's step
abbrev pub ledger_lines : Terms → Fold (Ledger × ℕ) (List ℕ)
ledger_lines t =
    lines_fold (λ (l : Ledger) (e : Event). (ledger_step t l e).ledger)
    (λ (l : Ledger) (e : Event). (ledger_step t l e).answer.code)
    (λ (l : Ledger) (e : Event). (ledger_step t l e).answer.value)
    ledger_line
    (ledger_last_line t)

-- "Refused or malformed terms print one line, `n=0`, with the code and zeros, and nothing after."
abbrev pub terms_line : ℕ → List ℕ
terms_line code = event_line 0 code 0 (pos 0) 0

-- What is printed for a text, by what is printed for good terms and the bytes after them.
-- "15 precedes the event it stands in; in the terms it precedes 1, and a text too long has malformed terms."
abbrev pub by_terms : (Terms → List ℕ → List ℕ) → Read Terms → List ℕ
by_terms lines (got t r) = cond (valid_terms t) (lines t r) (terms_line 1)
by_terms lines broken = terms_line 15

abbrev pub by_text : (Terms → List ℕ → List ℕ) → List ℕ → List ℕ
by_text lines s = cond (ltb max_text (length s)) (terms_line 15) (by_terms lines (read_terms s))

-- what is printed after good terms: the lines of all events, from the opening ledger on
abbrev pub all_lines : Terms → List ℕ → List ℕ
all_lines t r = fold_events (ledger_lines t) (opening, 1) r

-- what `prepay` prints
unfoldable pub transcript : List ℕ → List ℕ
transcript s = by_text all_lines s

-- a buffer that holds any transcript
abbrev pub transcript_room : ℕ
transcript_room = 655360

-- what `transcript::transcript` leaves
abbrev pub WholeTranscript : List ℕ → List ℕ → List ℕ → ℕ → Type 0
WholeTranscript s = Whole transcript_room (transcript s)
