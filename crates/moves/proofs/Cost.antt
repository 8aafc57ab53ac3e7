-- A usage day's cost fits 32 bits. Assumes nothing.
use Prim.Native.Nat.{ℕ, ◌≤◌}
use native.Mathlib.Omega.{arith}
use native.Mathlib.Nat.{mul-le-mul}
use Rattle.tariff.specs.Tariff.{cost_of}

pub cost-limit : (wh price : ℕ) → wh ≤ 9999999 → price ≤ 99999 → cost_of wh price ≤ 9999899
unfolding cost_of
cost-limit wh price h h' = omega (arith, mul-le-mul {n₂ = 9999999} {m₂ = 99999} h h')
