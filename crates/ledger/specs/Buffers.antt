-- A page or a text that a call lays into a lent buffer (document 02, T-02: "here and in later requests").
use Rattle.std.specs.Prelude.{ℕ, cond, List, ◌++◌, length, drop, ltb}
use Rattle.ledger.specs.declared.Answer.{Answer}

-- What a call answers, and the buffer that it leaves.
pub record Laid : Type 0 where
  pub answer : Answer
  pub buffer : List ℕ

-- a refusal: value 0, and nothing is written
abbrev pub refused : ℕ → List ℕ → Laid
refused code buffer = record { answer = record { code = code; value = 0 }; buffer = buffer }

-- "a page or text so written stands from the buffer's start, its length in bytes is the value, and bytes past it stay"; "a short buffer is 16,
-- found .. before anything is written"
abbrev pub laid : List ℕ → List ℕ → Laid
laid bytes buffer =
    cond (ltb (length buffer) (length bytes)) (refused 16 buffer)
    (record { answer = record { code = 0; value = length bytes }; buffer = bytes ++ drop (length bytes) buffer })
