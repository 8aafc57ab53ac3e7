-- The posting calls, and what the ledger says of each (document 01, "The ledger of demand 3").
use Rattle.std.specs.Prelude.{ℕ, cond, List, [], ◌∷◌, ◌++◌, length, drop, ltb}
use Rattle.terms.specs.declared.Terms.{Terms}
use Rattle.ledger.specs.declared.Event.{Event}
use Rattle.ledger.specs.declared.Answer.{Answer}
use Rattle.ledger.specs.Rules.{Ledger}
use Rattle.ledger.specs.Ledger.{ledger_step, ledger_after}

-- A posting call: one event, or a row of events with the buffer lent to it.
pub data Call : Type 0 where
  single : Event → Call
  row : List Event → List ℕ → Call

-- What a call hands back: a single post its code and value; a row its own answer and every byte of the buffer.
pub data Back : Type 0 where
  answered : Answer → Back
  written : ℕ → List ℕ → Back

-- The events that a call adds to demand 3's list. "A row longer than its lent buffer .. adds no event to demand 3's list"; "Any other row is
-- fed event by event".
unfoldable pub fed : Call → List Event
fed (single e) = e ∷ []
fed (row es buffer) = cond (ltb (length buffer) (length es)) [] es

-- the ledger after a call
abbrev pub ledger_called : Terms → Ledger → Call → Ledger
ledger_called t l c = ledger_after t l (fed c)

-- "its code bytes are the codes compared"
unfoldable pub ledger_codes : Terms → Ledger → List Event → List ℕ
ledger_codes t l [] = []
ledger_codes t l (e ∷ es) = (ledger_step t l e).answer.code ∷ ledger_codes t (ledger_step t l e).ledger es

-- "A row longer than its lent buffer ..: its answer is 16"; of any other "its own answer is 0", and "Bytes past the row's length do not change."
-- "Code 16 precedes every posting."; "an empty row is 0 and changes nothing"
unfoldable pub ledger_back : Terms → Ledger → Call → Back
ledger_back t l (single e) = answered (ledger_step t l e).answer
ledger_back t l (row es buffer) =
    cond (ltb (length buffer) (length es)) (written 16 buffer) (written 0 (ledger_codes t l es ++ drop (length es) buffer))
