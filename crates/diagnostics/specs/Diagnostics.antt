-- What a program says on standard error of a text's form, a line or nothing.
use Rattle.std.specs.Prelude.{ℕ, List, [], ◌∷◌, ◌++◌}
use Rattle.scanner.specs.Scanner.{bytes, feed}
use Rattle.text.specs.declared.Form.{Form}
use Rattle.text.specs.declared.Form.TheVariants.{Sound, TooLong, Terms, Event}
use Rattle.text.specs.Form.{form_of}
use Rattle.printing.specs.Printing.{decimal, Whole}

-- by the form: of what breaks it, the line at which that begins; the terms are the text's first lines
unfoldable pub message_of : Form → List ℕ
message_of Sound = []
message_of TooLong = bytes "the text is longer than 65536 bytes" ++ feed ∷ []
message_of Terms = bytes "line 1: the terms break the form" ++ feed ∷ []
message_of (Event n line) =
    bytes "line " ++ (decimal line ++ (bytes ": event " ++ (decimal n ++ (bytes " breaks the form" ++ feed ∷ []))))

-- a buffer that holds any message
abbrev pub message_room : ℕ
message_room = 70

-- what `diagnostics::message` leaves
abbrev pub WholeMessage : List ℕ → List ℕ → List ℕ → ℕ → Type 0
WholeMessage text = Whole message_room (message_of (form_of text))
