-- A number's digits: one more at a time, and how many. Assumes nothing.
use mathlib.Core.Path.{◌≡◌, refl, ap, ◌∙◌}
use mathlib.Core.Logic.{⊎_elim}
use mathlib.Core.List.{List, [], ◌∷◌, ◌++◌}
use Prim.Native.Nat.{ℕ, zero, suc, ◌+◌, ◌*◌, ◌/◌, ◌%◌, ◌^◌, ◌≤◌, ◌<◌}
use native.Mathlib.Nat.{pow-succ'}
use native.Mathlib.Omega.{arith}
use lib.ListN.{length, length-append}
use lib.IntN.{ℤ, pos, negsuc}
use lib.Signed.{mag}
use borrow.Author.Tests.{lt-ltb, le-ltb}
use Rattle.std.proofs.lemmas.Bool.{cases_lt}
use Rattle.printing.specs.Printing.{digits_by, digits, decimal, DigitsSuffice, signed}
use Rattle.printing.proofs.Counts.{uncounted}

local : (f g : ℕ → List ℕ) (n : ℕ) → ((m : ℕ) → m < n → f m ≡ g m) → digits_by f n ≡ digits_by g n
local f g n h = ⊎_elim
    (λ l. simp (lt-ltb n 10 l))
    (λ l. simp (le-ltb n 10 l) (ap (λ (d : List ℕ). d ++ ((48 + n % 10) ∷ [])) (h (n / 10) (omega (arith, l)))))
    (cases_lt n 10)

pub count-suffices : DigitsSuffice
unfolding decimal digits
count-suffices n = uncounted (λ m. m) digits_by digits (λ k x. refl) local n

pub decimal-low : (n : ℕ) → n < 10 → decimal n ≡ (48 + n) ∷ []
decimal-low n h = count-suffices n ∙ simp (lt-ltb n 10 h)

pub decimal-high : (n : ℕ) → 10 ≤ n → decimal n ≡ decimal (n / 10) ++ ((48 + n % 10) ∷ [])
decimal-high n h = count-suffices n ∙ simp (le-ltb n 10 h)

pub length_high : (n : ℕ) → 10 ≤ n → length (decimal n) ≡ length (decimal (n / 10)) + 1
length_high n h = ap length (decimal-high n h) ∙ length-append (decimal (n / 10)) ((48 + n % 10) ∷ [])

-- a number below a power of ten
pub short : (k n : ℕ) → n < 10 ^ suc k → length (decimal n) ≤ suc k
short zero n h = rw (decimal-low n h) (omega arith)
short (suc k) n h = ⊎_elim
    (λ l. rw (decimal-low n l) (omega arith))
    (λ l. omega (arith, length_high n l, short k (n / 10) (let b : n < 10 * 10 ^ suc k = rw (pow-succ' 10 (suc k)) at h in omega arith)))
    (cases_lt n 10)

pub length-decimal : (n : ℕ) → n < 2 ^ 64 → length (decimal n) ≤ 20
length-decimal n h = short 19 n (omega arith)

-- a byte has three digits at most
pub length-byte : (n : ℕ) → n < 2 ^ 8 → length (decimal n) ≤ 3
length-byte n h = short 2 n (omega arith)

pub length-signed : (z : ℤ) → mag z < 2 ^ 63 → length (signed z) ≤ 20
unfolding signed
length-signed (pos n) h = length-decimal n (omega arith)
length-signed (negsuc n) h = omega (arith, short 18 (suc n) (omega arith))
