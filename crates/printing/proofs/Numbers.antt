-- The digits that `itoa` writes are those of the definition, and a sum's sign and digits are. Assumes nothing.
use mathlib.Core.Path.{◌≡◌, refl, sym, ap, ◌∙◌}
use mathlib.Core.Bool.{true, false}
use mathlib.Core.List.{List, [], ◌∷◌, ◌++◌}
use Prim.Native.Nat.{ℕ, suc, ◌+◌, ◌%◌, ◌^◌, ◌<◌}
use native.Mathlib.Omega.{arith}
use lib.IntN.{ℤ, pos, negsuc}
use lib.Signed.{mag, lt_z}
use borrow.Author.Tests.{ltb-true}
use Rattle.std.specs.Prelude.{nat_abs}
use Rattle.std.specs.Fmt as fmt
use Rattle.std.proofs.lemmas.Fmt.{decimal_by_steps}
use Rattle.printing.specs.Printing.{decimal, signed}
use Rattle.printing.proofs.Digits.{decimal-low, decimal-high}

pub decimal_is : (n : ℕ) → n < 2 ^ 64 → fmt.decimal n ≡ decimal n
decimal_is n h =
    decimal_by_steps (λ (m : ℕ) (ds : List ℕ). ds ≡ decimal m) (λ m l. sym (decimal-low m l))
    (λ m ds l e. ap (λ (xs : List ℕ). xs ++ ((48 + m % 10) ∷ [])) e ∙ sym (decimal-high m l))
    n h

-- a number with a sign, as `itoa` writes it whole
pub signed_is : (z : ℤ) → mag z < 2 ^ 63 → fmt.signed_decimal z ≡ signed z
unfolding signed
signed_is (pos n) h = decimal_is n (omega (arith, h))
signed_is (negsuc n) h = ap (λ (xs : List ℕ). 45 ∷ xs) (decimal_is (suc n) (omega (arith, h)))

pub minus : (z : ℤ) → lt_z z (pos 0) ≡ true → 45 ∷ decimal (nat_abs z) ≡ signed z
unfolding signed
minus (pos n) h = let l = ltb-true n 0 h in absurd (omega arith)
minus (negsuc n) h = refl

pub no-minus : (z : ℤ) → lt_z z (pos 0) ≡ false → decimal (nat_abs z) ≡ signed z
unfolding signed
no-minus (pos n) h = refl
no-minus (negsuc n) h = absurd (cc)
