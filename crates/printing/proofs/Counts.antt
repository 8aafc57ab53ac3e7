-- Definitions by a count: for those that cite one. Assumes nothing.
use Prim.Native.Nat.{ℕ, zero, suc, ◌<◌}
use mathlib.Core.Path.{◌≡◌, sym, ◌∙◌}
use native.Mathlib.Omega.{arith}

-- What is defined by itself at smaller sizes, counted down from more than the size, does not depend on the count.
module _ {X Y : Type 0} (size : X → ℕ) (body : (X → Y) → X → Y) (counted : ℕ → X → Y)
    (step : (k : ℕ) (x : X) → counted (suc k) x ≡ body (counted k) x)
    (local : (f g : X → Y) (x : X) → ((y : X) → size y < size x → f y ≡ g y) → body f x ≡ body g x) where
  enough : (k j : ℕ) (x : X) → size x < k → size x < j → counted k x ≡ counted j x
  enough zero j x h g = absurd (omega arith)
  enough (suc k) zero x h g = absurd (omega arith)
  enough (suc k) (suc j) x h g = step k x ∙ local (counted k) (counted j) x (λ y l. enough k j y (omega arith) (omega arith)) ∙ sym (step j x)

  pub uncounted : (x : X) → counted (suc (size x)) x ≡ body (λ (y : X). counted (suc (size y)) y) x
  uncounted x = step (size x) x ∙ local (counted (size x)) (λ (y : X). counted (suc (size y)) y) x (λ y l. enough (size x) (suc (size y)) y l (omega arith))
