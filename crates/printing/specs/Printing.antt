-- Numbers and words as bytes, and where they are put in a lent buffer.
use Rattle.std.specs.Prelude.{ℕ, zero, suc, ◌+◌, ◌-◌, ◌/◌, ◌%◌, ◌≤◌, ◌≡◌, Bool, cond, List, [], ◌∷◌, ◌++◌, length, take, drop, replicate, ltb, leb, ℤ, pos, negsuc}

-- a number in base ten, without leading zero, zero being `0`; `more` gives the digits of its tenth, rounded down
abbrev pub digits_by : (ℕ → List ℕ) → ℕ → List ℕ
digits_by more n = cond (ltb n 10) ((48 + n) ∷ []) (more (n / 10) ++ ((48 + n % 10) ∷ []))

-- all digits, or the last k if there are more
unfoldable pub digits : ℕ → ℕ → List ℕ
digits zero n = []
digits (suc k) n = digits_by (digits k) n

-- n has at most n + 1 digits: `printing::count_suffices`.
unfoldable pub decimal : ℕ → List ℕ
decimal n = digits (suc n) n

-- The equation holds without the count, for every number.
abbrev pub DigitsSuffice : Type 0
DigitsSuffice = (n : ℕ) → decimal n ≡ digits_by decimal n

-- the bytes that a number below 2 ^ 64 has at most
abbrev pub number_room : ℕ
number_room = 20

-- "a negative sum has a leading minus"
unfoldable pub signed : ℤ → List ℕ
signed (pos n) = decimal n
signed (negsuc n) = 45 ∷ decimal (suc n)

-- a number below 100 as two digits; of a larger one the last two
abbrev pub two_digits : ℕ → List ℕ
two_digits n = (48 + n / 10 % 10) ∷ (48 + n % 10) ∷ []

-- a number of hundredths with two decimals, without sign or separators: `60.00` of 6000, `0.05` of 5
unfoldable pub hundredths : ℕ → List ℕ
hundredths n = decimal (n / 100) ++ (46 ∷ two_digits n)

-- ---- columns

abbrev pub spaces : ℕ → List ℕ
spaces n = replicate n 32

-- aligned left, and right, in so many columns, filled up with spaces; longer bytes go past them
abbrev pub aligned_left : ℕ → List ℕ → List ℕ
aligned_left columns s = s ++ spaces (columns - length s)

abbrev pub aligned_right : ℕ → List ℕ → List ℕ
aligned_right columns s = spaces (columns - length s) ++ s

-- ---- into a buffer

-- whether bytes from place `at` on lie within the buffer
unfoldable pub fits : List ℕ → ℕ → List ℕ → Bool
fits buffer at bytes = leb (at + length bytes) (length buffer)

-- the buffer with the bytes from place `at` on
unfoldable pub over : List ℕ → ℕ → List ℕ → List ℕ
over buffer at bytes = take at buffer ++ (bytes ++ drop (at + length bytes) buffer)

-- the same where the bytes fit; else nothing is put
unfoldable pub put : List ℕ → ℕ → List ℕ → List ℕ
put buffer at bytes = cond (fits buffer at bytes) (over buffer at bytes) buffer

-- the place after the bytes; `at` where they do not fit
unfoldable pub place_after : List ℕ → ℕ → List ℕ → ℕ
place_after buffer at bytes = cond (fits buffer at bytes) (at + length bytes) at

-- What a putting call leaves: the buffer and the place after the bytes.
pub record Puts (before : List ℕ) (at : ℕ) (bytes after : List ℕ) (r : ℕ) : Type 0 where
  pub buffer : after ≡ put before at bytes
  pub next : r ≡ place_after before at bytes

-- The bytes stand in the buffer from the place on, with room for them, and r is the place after them.
pub record Wrote (before : List ℕ) (at : ℕ) (bytes after : List ℕ) (r : ℕ) : Type 0 where
  pub buffer : after ≡ over before at bytes
  pub next : r ≡ at + length bytes
  pub room : at + length bytes ≤ length before

-- What a call leaves that puts all of its bytes or none: in a buffer of `room` bytes or more they stand from its start on, their number is the
-- answer, and the bytes past them are as they were; in a shorter one nothing is put, and the answer is 0.
pub record Whole (room : ℕ) (bytes before after : List ℕ) (r : ℕ) : Type 0 where
  pub answer : r ≡ cond (ltb (length before) room) 0 (length bytes)
  pub buffer : after ≡ cond (ltb (length before) room) before (bytes ++ drop (length bytes) before)
