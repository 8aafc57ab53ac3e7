-- The lines of an event text, over bytes (document 01, "Event text"): their keys and values, numbers, dates and words.
use Rattle.std.specs.Prelude.{ℕ, ◌+◌, ◌*◌, ◌-◌, ◌≡◌, Bool, true, false, cond, not, ◌&&◌, ◌||◌, List, [], ◌∷◌, ◌++◌, length, get_or, leb, eqb, Option, Some, None}
use Rattle.std.specs.Borrow.{Bor}
use Prim.Native.Char.{code}
use Prim.Native.String as text
use Prim.Native.String.{String}
use Rattle.calendar.specs.declared.Date.{Date}
use Rattle.terms.specs.Terms.{within}

-- A word as the paper prints it, by its bytes.
abbrev pub bytes : String → List ℕ
bytes text.[] = []
bytes (text.◌∷◌ c s) = code c ∷ bytes s

-- What stands at the start of some bytes, with the bytes after it; or that they break the form.
pub data Read (A : Type 0) : Type 0 where
  got : A → List ℕ → Read A
  broken : Read A

-- what f reads from the bytes after what was read; broken where that was
abbrev pub then : {A B : Type 0} → Read A → (A → List ℕ → Read B) → Read B
then (got a s) f = f a s
then broken f = broken

-- ---- lines

-- a line feed
abbrev pub feed : ℕ
feed = 10

-- a hyphen
abbrev pub hyphen : ℕ
hyphen = 45

-- "each ended by one line feed": the bytes before the first line feed. A line without one breaks the form.
unfoldable pub read_line : List ℕ → Read (List ℕ)
read_line [] = broken
read_line (b ∷ s) = cond (eqb b feed) (got [] s) (then (read_line s) (λ (l r : List ℕ). got (b ∷ l) r))

-- the bytes after the prefix, if they start with it
unfoldable pub after_prefix : List ℕ → List ℕ → Read (List ℕ)
after_prefix [] s = got s []
after_prefix (p ∷ ps) [] = broken
after_prefix (p ∷ ps) (b ∷ s) = cond (eqb p b) (after_prefix ps s) broken

-- "Lines `key=value`, each ended by one line feed": what stands after the key and the equals sign, up to the line feed
unfoldable pub read_value : List ℕ → List ℕ → Read (List ℕ)
read_value key s = then (after_prefix (key ++ bytes "=") s) (λ (rest none : List ℕ). read_line rest)

-- ---- numbers

abbrev pub is_digit : ℕ → Bool
is_digit b = within 48 57 b

unfoldable pub all_digits : List ℕ → Bool
all_digits [] = true
all_digits (b ∷ s) = is_digit b && all_digits s

-- the number that the digits of n and these digits make, in base ten
unfoldable pub value_from : ℕ → List ℕ → ℕ
value_from n [] = n
value_from n (b ∷ s) = value_from (n * 10 + (b - 48)) s

-- "at most 4,294,967,295"
abbrev pub max_number : ℕ
max_number = 4294967295

-- "digits without sign or leading zero, zero being `0`, at most 4,294,967,295"
unfoldable pub is_number : List ℕ → Bool
is_number v =
    leb 1 (length v)
    && (all_digits v && ((eqb (length v) 1 || not (eqb (get_or v 0 0) 48)) && leb (value_from 0 v) max_number))

-- the number that some bytes write, if they write one
unfoldable pub number_of : List ℕ → Option ℕ
number_of v = cond (is_number v) (Some (value_from 0 v)) None

unfoldable pub read_number : List ℕ → List ℕ → Read ℕ
read_number key s = then (read_value key s) (λ (v r : List ℕ). cond (is_number v) (got (value_from 0 v) r) broken)

-- ---- dates

-- whether two digits stand at a place
abbrev pub are_digits : List ℕ → ℕ → Bool
are_digits v i = is_digit (get_or v i 0) && is_digit (get_or v (i + 1) 0)

-- their number
abbrev pub two_digits : List ℕ → ℕ → ℕ
two_digits v i = (get_or v i 0 - 48) * 10 + (get_or v (i + 1) 0 - 48)

-- "Dates are YYYY-MM-DD": any digits
unfoldable pub is_date_form : List ℕ → Bool
is_date_form v =
    eqb (length v) 10
    && (eqb (get_or v 4 0) hyphen
    && (eqb (get_or v 7 0) hyphen && (are_digits v 0 && (are_digits v 2 && (are_digits v 5 && are_digits v 8)))))

unfoldable pub date_value : List ℕ → Date
date_value v = record { year = two_digits v 0 * 100 + two_digits v 2; month = two_digits v 5; day = two_digits v 8 }

unfoldable pub read_date : List ℕ → List ℕ → Read Date
read_date key s = then (read_value key s) (λ (v r : List ℕ). cond (is_date_form v) (got (date_value v) r) broken)

-- ---- words: the same bytes

unfoldable pub same : List ℕ → List ℕ → Bool
same [] [] = true
same [] (b ∷ s) = false
same (p ∷ ps) [] = false
same (p ∷ ps) (b ∷ s) = eqb p b && same ps s

-- ---- what a function answers: what it read and the text's rest, or none where the text breaks the form

abbrev pub IsRead : {A : Type 0} → Read A → Option (A × Bor (List ℕ)) → Type 0
IsRead r (Some p) = r ≡ got p.0 p.1.now
IsRead r None = r ≡ broken

-- the same for a value, which is a part of the text too
abbrev pub IsValueRead : Read (List ℕ) → Option (Bor (List ℕ) × Bor (List ℕ)) → Type 0
IsValueRead r (Some p) = r ≡ got p.0.now p.1.now
IsValueRead r None = r ≡ broken
