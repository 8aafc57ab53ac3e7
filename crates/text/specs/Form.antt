-- Whether a text keeps its form, and where it breaks it (document 01, "Event text").
use Rattle.std.specs.Prelude.{ℕ, zero, suc, ◌+◌, ◌-◌, ◌≡◌, cond, List, [], ◌∷◌, length, take, count_by, eqb, ltb}
use Rattle.scanner.specs.Scanner.{feed, got, broken}
use Rattle.text.specs.Text.{max_text, read_terms, read_event}
use Rattle.text.specs.declared.Form.{Form}
use Rattle.text.specs.declared.Form.TheVariants.{Sound, TooLong, Terms, Event}

-- "Lines .., each ended by one line feed": the line that starts after these bytes, from 1
abbrev pub line_after : List ℕ → ℕ
line_after before = count_by (λ (b : ℕ). eqb b feed) before + 1

-- Where s is left of the text, the line at which it starts.
abbrev pub line_of : List ℕ → List ℕ → ℕ
line_of text s = line_after (take (length text - length s) text)

-- "Then per event .." and "no more is read": the form of what is left of the text from its n-th event on; by `more`, from the next event on
abbrev pub events_by : (ℕ → List ℕ → Form) → List ℕ → ℕ → List ℕ → Form
events_by more text n [] = Sound
events_by more text n (b ∷ s) =
    elim (read_event (b ∷ s)) [
      | got e r ↦ more (n + 1) r
      | broken ↦ Event n (line_of text (b ∷ s))
    ]

-- the same, cut off after k events
unfoldable pub events_in : ℕ → List ℕ → ℕ → List ℕ → Form
events_in zero text n s = Sound
events_in (suc k) text n s = events_by (events_in k text) text n s

-- There are no more events than bytes, so nothing is cut off: `text::count_suffices`.
abbrev pub events_form : List ℕ → ℕ → List ℕ → Form
events_form text n s = events_in (suc (length s)) text n s

abbrev pub EventsSuffice : Type 0
EventsSuffice = (text : List ℕ) (n : ℕ) (s : List ℕ) → events_form text n s ≡ events_by (events_form text) text n s

-- "text breaks its form, or exceeds 65,536 bytes": too long, else in its terms, else in its first event that can't be read
unfoldable pub form_of : List ℕ → Form
form_of text =
    cond (ltb max_text (length text)) TooLong
    (elim (read_terms text) [
      | got t r ↦ events_form text 1 r
      | broken ↦ Terms
    ])
