-- What the private functions of the month summary answer. No promise to others cites these.
use Rattle.std.specs.Prelude.{ℕ, Bool, ◌&&◌, ltb, leb}
use Rattle.std.specs.declared.ops.Range.{Range}

-- a day of the range
abbrev pub span : Range ℕ → ℕ → Bool
span r k = leb r.start k && ltb k r.end

-- What the average divides, and what it divides by, are at most this: the cost, or the Wh, of 400 metered and 400 estimated days, each below
-- 2 ^ 32, and two sums of charges, each at most 2 ^ 40.
abbrev pub max_averaged : ℕ
max_averaged = 6000000000000
