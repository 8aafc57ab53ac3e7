-- The form of an event text, over bytes (document 01, "Event text"; document 02, T-01): its terms and its events, line by line.
use Rattle.std.specs.Prelude.{ℕ, Bool, true, cond, List, [], ◌∷◌, length, ltb, eqb}
use Prim.Native.String.{String}
use Rattle.calendar.specs.declared.Date.{Date}
use Rattle.terms.specs.declared.Terms.{Terms}
use Rattle.ledger.specs.declared.Event.{Event}
use Rattle.scanner.specs.Scanner.{bytes, Read, got, broken, then, read_value, read_number, read_date, same}

-- "exceeds 65,536 bytes": those of the longest text
abbrev pub max_text : ℕ
max_text = 65536

-- ---- the terms: "First `open`, `price`, `connect`, `cutoff`, `share`."

unfoldable pub read_terms : List ℕ → Read Terms
read_terms s =
    then (read_date (bytes "open") s) (λ (o : Date) (s₁ : List ℕ).
    then (read_number (bytes "price") s₁) (λ (p : ℕ) (s₂ : List ℕ).
    then (read_number (bytes "connect") s₂) (λ (c : ℕ) (s₃ : List ℕ).
    then (read_number (bytes "cutoff") s₃) (λ (f : ℕ) (s₄ : List ℕ).
    then (read_number (bytes "share") s₄) (λ (h : ℕ) (s₅ : List ℕ).
    got (record { opened = o; price = p; connect = c; cutoff = f; share = h }) s₅)))))

-- "exceeds 65,536 bytes": such a text breaks its form before its terms
abbrev pub terms_in : List ℕ → Read Terms
terms_in s = cond (ltb max_text (length s)) broken (read_terms s)

-- ---- the sorts of events

-- The fields of the events.
pub data Field : Type 0 where
  Amount : Field
  Number : Field
  Kind : Field
  Usage : Field
  Wh : Field
  From : Field
  To : Field

-- A line of an event: its key, the field that keeps its number, and whether it stands there, by the event read so far.
pub record FieldLine : Type 0 where
  pub key : List ℕ
  pub field : Field
  pub asked : Event → Bool

-- a line that stands there whatever was read before it
abbrev pub field_line : List ℕ → Field → FieldLine
field_line key field = record { key = key; field = field; asked = λ (e : Event). true }

-- A sort of events: its number, its word and the lines of its fields.
pub record SortRow : Type 0 where
  pub sort : ℕ
  pub word : List ℕ
  pub fields : List FieldLine

-- a sort's row, by its word as the paper prints it
abbrev pub sort_row : ℕ → String → List FieldLine → SortRow
sort_row sort word fields = record { sort = sort; word = bytes word; fields = fields }

-- a line, by its key as the paper prints it
abbrev pub under : String → Field → FieldLine
under key field = field_line (bytes key) field

-- "Values of `do` are the bold words", numbered in the paper's order, then document 02's; then "its fields in the order named above, under keys .."
abbrev pub sorts : List SortRow
sorts =
    sort_row 1 "pay" (under "amount" Amount ∷ [])
    ∷ sort_row 2 "reverse" (under "number" Number ∷ [])
    ∷ sort_row 3 "credit" (under "amount" Amount ∷ [])
    ∷ sort_row 4 "charge" (under "kind" Kind ∷ under "amount" Amount ∷ [])
    ∷ sort_row 5 "estimate" (under "usage" Usage ∷ under "wh" Wh ∷ [])
    ∷ sort_row 6 "read" (under "usage" Usage ∷ under "wh" Wh ∷ [])
    ∷ sort_row 7 "warn" []
    ∷ sort_row 8 "mark" (under "kind" Kind ∷ under "from" From ∷ under "to" To ∷ [])
    ∷ sort_row 9 "plan" (under "kind" Kind ∷ [])
    ∷ sort_row 10 "disconnect" []
    ∷ sort_row 11 "connect" []
    ∷ sort_row 12 "price" (under "price" Amount ∷ [])
    ∷ []

-- the sort of a word; 0 for no word of the papers'
unfoldable pub sort_in : List SortRow → List ℕ → ℕ
sort_in [] v = 0
sort_in (r ∷ rows) v = cond (same r.word v) r.sort (sort_in rows v)

-- the fields of a sort
abbrev pub fields_in : List SortRow → ℕ → List FieldLine
fields_in [] sort = []
fields_in (r ∷ rows) sort = cond (eqb sort r.sort) r.fields (fields_in rows sort)

unfoldable pub read_sort : List ℕ → Read ℕ
read_sort s = then (read_value (bytes "do") s) (λ (v r : List ℕ). cond (eqb (sort_in sorts v) 0) broken (got (sort_in sorts v) r))

-- ---- an event: "per event `day`, `do`, and its fields"

-- An event of that day and sort, before its fields are read: 0, and so it stays where the sort does not name the field.
abbrev pub event_of : ℕ → ℕ → Event
event_of day sort = record { sort = sort; day = day; amount = 0; number = 0; kind = 0; usage = 0; wh = 0; from = 0; to = 0 }

-- The event with the number of each field changed by f.
abbrev pub changed : (Field → ℕ → ℕ) → Event → Event
changed f e = record {
  sort = e.sort;
  day = e.day;
  amount = f Amount e.amount;
  number = f Number e.number;
  kind = f Kind e.kind;
  usage = f Usage e.usage;
  wh = f Wh e.wh;
  from = f From e.from;
  to = f To e.to;
}

-- the fields, told apart by number
abbrev pub field_index : Field → ℕ
field_index Amount = 0
field_index Number = 1
field_index Kind = 2
field_index Usage = 3
field_index Wh = 4
field_index From = 5
field_index To = 6

-- the event with a number in one field
abbrev pub stored : Field → ℕ → Event → Event
stored field n e = changed (λ (other : Field) (old : ℕ). cond (eqb (field_index field) (field_index other)) n old) e

unfoldable pub read_fields : List FieldLine → Event → List ℕ → Read Event
read_fields [] e s = got e s
read_fields (l ∷ lines) e s =
    cond (l.asked e)
    (then (read_number l.key s) (λ (n : ℕ) (r : List ℕ). read_fields lines (stored l.field n e) r))
    (read_fields lines e s)

unfoldable pub read_event : List ℕ → Read Event
read_event s =
    then (read_number (bytes "day") s) (λ (d : ℕ) (s₁ : List ℕ).
    then (read_sort s₁) (λ (k : ℕ) (s₂ : List ℕ). read_fields (fields_in sorts k) (event_of d k) s₂))
