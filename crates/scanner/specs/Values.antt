-- What the scanner's private functions answer of a value by itself.
use Rattle.std.specs.Prelude.{ℕ, ◌+◌, ◌*◌, ◌-◌, ◌≡◌, cond, ◌&&◌, leb, ltb, List, [], ◌++◌, length, Option, Some, None}
use Rattle.std.specs.Borrow.{Bor}
use Rattle.calendar.specs.declared.Date.{Date}
use Rattle.scanner.specs.Scanner.{bytes, Read, got, broken, then, read_line, after_prefix, is_digit, is_number, all_digits, value_from, max_number, is_date_form, date_value}

-- what stands after the key and the equals sign
abbrev pub after_key : List ℕ → List ℕ → Read (List ℕ)
after_key key s = after_prefix (key ++ bytes "=") s

abbrev pub IsAfter : Read (List ℕ) → Option (Bor (List ℕ)) → Type 0
IsAfter r (Some rest) = r ≡ got rest.now []
IsAfter r None = r ≡ broken

-- a line that was read, where it and its line feed have at most so many bytes
abbrev pub short : ℕ → Read (List ℕ) → Read (List ℕ)
short most (got v r) = cond (ltb (length v) most) (got v r) broken
short most broken = broken

-- the number that the first line is
unfoldable pub number_line : List ℕ → Read ℕ
number_line s = then (read_line s) (λ (v r : List ℕ). cond (is_number v) (got (value_from 0 v) r) broken)

-- a digit's number, none for another byte
abbrev pub digit_of : ℕ → Option ℕ
digit_of b = cond (is_digit b) (Some (b - 48)) None

-- the number that some digits make, none where it is above the largest
unfoldable pub decimal : List ℕ → Option ℕ
decimal v = cond (all_digits v && leb (value_from 0 v) max_number) (Some (value_from 0 v)) None

-- the number of two digits, none if one is another byte
abbrev pub two_digits_of : ℕ → ℕ → Option ℕ
two_digits_of a b = cond (is_digit a && is_digit b) (Some ((a - 48) * 10 + (b - 48))) None

-- the date that a value is
unfoldable pub date_of : List ℕ → Option Date
date_of v = cond (is_date_form v) (Some (date_value v)) None
