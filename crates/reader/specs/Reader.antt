-- A text read event by event: the terms first, then each event by a reader, which the caller keeps between the calls.
use Rattle.std.specs.Prelude.{ℕ, zero, suc, ◌-◌, ◌≡◌, cond, ◌||◌, List, [], ◌∷◌, length, drop, replicate, ltb, eqb, Option, Some, None, Result, Ok, Err}
use Rattle.terms.specs.declared.Terms.{Terms}
use Rattle.ledger.specs.declared.Event.{Event}
use Rattle.ledger.specs.declared.Refusal.{Refusal}
use Rattle.ledger.specs.declared.Refusal.TheVariants.{Form}
use Rattle.scanner.specs.Scanner.{Read, got, broken}
use Rattle.text.specs.Text.{max_text, terms_in, read_event}
use Rattle.reader.specs.declared.Reader.{Reader}

-- ---- a call

-- The codes of a reader: it reads on; it was at the end; "text breaks its form, or exceeds 65,536 bytes". Any other is read as the last.
abbrev pub reads_on : ℕ
reads_on = 0

abbrev pub at_end : ℕ
at_end = 255

abbrev pub malformed : ℕ
malformed = 15

-- What a call leaves and answers.
pub record Given (A : Type 0) : Type 0 where
  pub reader : Reader
  pub answer : Result A Refusal

abbrev pub gives : {A : Type 0} → ℕ → ℕ → Result A Refusal → Given A
gives place code answer = record { reader = record { place = place; code = code }; answer = answer }

-- the terms, and the reader at the first event
abbrev pub begun_by : List ℕ → Read Terms → Given Terms
begun_by text (got t rest) = gives (length text - length rest) reads_on (Ok t)
begun_by text broken = gives 0 malformed (Err Form)

-- what `Reader::begin` gives
unfoldable pub begun : List ℕ → Given Terms
begun text = begun_by text (terms_in text)

-- the event, and the reader after it; malformed, it stays where it stood
abbrev pub next_by : List ℕ → ℕ → Read Event → Given (Option Event)
next_by text place (got e rest) = gives (length text - length rest) reads_on (Ok (Some e))
next_by text place broken = gives place malformed (Err Form)

-- what stands at a place: at the end of the text no event, past it nothing
abbrev pub next_at : List ℕ → ℕ → Given (Option Event)
next_at text place =
    cond (ltb max_text (length text) || ltb (length text) place) (next_by text place broken)
    (cond (eqb place (length text)) (gives place at_end (Ok None)) (next_by text place (read_event (drop place text))))

-- What `Reader::next` gives. After the end it is the end again, after any other code than 0 malformed again.
unfoldable pub next_of : List ℕ → Reader → Given (Option Event)
next_of text r =
    cond (eqb r.code reads_on) (next_at text r.place) (gives r.place r.code (cond (eqb r.code at_end) (Ok None) (Err Form)))

-- ---- call after call

abbrev pub EventAnswer : Type 0
EventAnswer = Result (Option Event) Refusal

-- what k calls answer, each getting the reader as the call before left it
unfoldable pub answers : List ℕ → ℕ → Reader → List EventAnswer
answers text zero r = []
answers text (suc k) r = (next_of text r).answer ∷ answers text k (next_of text r).reader

-- What k calls should answer where these bytes are left: event after event; at the end, each time that it is the end; from an event that
-- breaks the form on, each time that the text is malformed.
unfoldable pub answers_in : ℕ → List ℕ → List EventAnswer
answers_in zero s = []
answers_in (suc k) [] = replicate (suc k) (Ok None)
answers_in (suc k) (b ∷ s) =
    elim (read_event (b ∷ s)) [
      | got e rest ↦ Ok (Some e) ∷ answers_in k rest
      | broken ↦ replicate (suc k) (Err Form)
    ]

-- The same over a whole text: its events stand after its terms.
abbrev pub answers_after : ℕ → Read Terms → List EventAnswer
answers_after k (got t rest) = answers_in k rest
answers_after k broken = replicate k (Err Form)

abbrev pub answers_of : ℕ → List ℕ → List EventAnswer
answers_of k text = answers_after k (terms_in text)

-- The calls over a text answer what stands in it, however many they are.
abbrev pub ReadsWhole : Type 0
ReadsWhole = (text : List ℕ) (k : ℕ) → answers text k (begun text).reader ≡ answers_of k text
