-- Tests: their cases. Assumes nothing.
use mathlib.Core.Path.{◌≡◌, refl}
use mathlib.Core.Bool.{Bool, true, false, cond}
use Prim.Native.Nat.{ℕ, ◌<◌}
use native.Mathlib.Omega.{arith}
use lib.Dec.{eqb}
use borrow.Author.Tests.{eqb-true}
use Rattle.std.specs.Int.{from_bool}
use Rattle.ledger.specs.declared.Refusal.{Refusal}
use Rattle.ledger.specs.Refusals.{refusal_code}
pub use Rattle.calendar.proofs.Sums.{decide}

-- A number that is j is no other, so an event has one sort.
pub other : (n j k : ℕ) → eqb j k ≡ false → eqb n j ≡ true → eqb n k ≡ false
other n j k d e = rw (eqb-true n j e) d

-- yes and no as the numbers 1 and 0
pub flag_is : (b : Bool) → from_bool b ≡ cond b 1 0
flag_is true = refl
flag_is false = refl

-- a refusal's code is not 0
pub positive : (r : Refusal) → 0 < refusal_code r
positive r = grind arith
