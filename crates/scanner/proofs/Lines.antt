-- A line, its key and its value, by what std's methods find of them. Assumes nothing.
use Rattle.std.proofs.Common.{◌≡◌, ℕ, zero, suc, ◌+◌, ◌-◌, Bool, cond, true, false, ltb, eqb, ◌&&◌, not, Some, None, List, [], ◌∷◌, ◌++◌, length, take, drop, refl, sym, ◌∙◌, arith}
use Rattle.std.specs.List.{position_or_len, position}
use Rattle.std.specs.Cmp.Lexicographic.{pointwise}
use Rattle.std.proofs.lemmas.Bool.{cond-true, cond-false}
use Rattle.std.proofs.lemmas.Bool.Decides.{nat_tests}
use Rattle.std.proofs.lemmas.List.{take_rest}
use Rattle.std.proofs.lemmas.Option.{cond_some}
use borrow.Author.Tests.{lt-ltb}
use lib.Dec.{leb-suc-suc}
use native.Mathlib.Numerals.{unary_clauses}
use Rattle.scanner.specs.Scanner.{bytes, Read, got, broken, then, read_line, after_prefix, read_value}
use Rattle.scanner.specs.Values.{after_key, short}

-- ---- the first line feed

-- the line that ends at a place, if that is one of the bytes in which it is looked for
abbrev line : List ℕ → List ℕ → ℕ → Read (List ℕ)
line looked s n = cond (ltb n (length looked)) (got (take n s) (drop (n + 1) s)) broken

abbrev first : List ℕ → ℕ
first s = position_or_len (λ b. eqb b 10) s

longer : (b : ℕ) (t : Bool) (l r : List ℕ) → then (cond t (got l r) broken) (λ (l r : List ℕ). got (b ∷ l) r) ≡ cond t (got (b ∷ l) r) broken
longer b true l r = refl
longer b false l r = refl

line-turn : (b n : ℕ) (looked s : List ℕ) → then (line looked s n) (λ (l r : List ℕ). got (b ∷ l) r) ≡ line (b ∷ looked) (b ∷ s) (1 + n)
line-turn b n looked s = let e : 1 + n ≡ suc n = omega arith in rw e (simp (unary_clauses, leb-suc-suc) (longer b (ltb n (length looked)) (take n s) (drop (suc n) s)))

feed-turn : (t : Bool) (b : ℕ) (looked s : List ℕ) (x : Read (List ℕ)) (n : ℕ) → x ≡ line (b ∷ looked) (b ∷ s) (1 + n) → cond t (got [] s) x ≡ line (b ∷ looked) (b ∷ s) (cond (not t) (1 + n) 0)
feed-turn true b looked s x n h = simp (lt-ltb 0 (length (b ∷ looked)) (omega arith))
feed-turn false b looked s x n h = h

-- a byte before a line makes it one longer
short-turn : (most b : ℕ) (t : Bool) (s : List ℕ) (x : Read (List ℕ))
    → short (suc most) (cond t (got [] s) (then x (λ (l r : List ℕ). got (b ∷ l) r))) ≡ cond t (got [] s) (then (short most x) (λ (l r : List ℕ). got (b ∷ l) r))
short-turn most b true s x = simp (lt-ltb 0 (suc most) (omega arith))
short-turn most b false s (got l r) = simp leb-suc-suc (sym (longer b (ltb (length l) most) l r))
short-turn most b false s broken = refl

short-none : (x : Read (List ℕ)) → short 0 x ≡ broken
short-none (got l r) = cond-false (ltb (length l) 0) _ _ (grind (arith, nat_tests))
short-none broken = refl

line-first : (most : ℕ) (s : List ℕ) → short most (read_line s) ≡ line (take most s) s (first (take most s))
unfolding read_line
line-first zero s = short-none (read_line s)
line-first (suc most) [] = refl
line-first (suc most) (b ∷ s) = short-turn most b (eqb b 10) s (read_line s) ∙ feed-turn (eqb b 10) b (take most s) s _ (first (take most s)) (rw (line-first most s) (line-turn b (first (take most s)) (take most s) s))

pub cond_none : (t : Bool) (n : ℕ) → None ≡ cond t (Some n) None → t ≡ false
cond_none true n h = absurd (cc)
cond_none false n h = refl

-- ---- the key and the equals sign

-- whether some bytes start with a prefix, as `strip_prefix` says it
abbrev starts : List ℕ → List ℕ → Bool
starts p s = pointwise eqb (take (length p) s) p

eqb_comm : (b c : ℕ) → eqb b c ≡ eqb c b
eqb_comm b c = grind (arith, nat_tests)

byte-turn : (t u : Bool) (x y : Read (List ℕ)) → x ≡ cond u y broken → cond t x broken ≡ cond (t && u) y broken
byte-turn true u x y h = h
byte-turn false u x y h = refl

after_strip : (p q s : List ℕ) → after_prefix (p ++ q) s ≡ cond (starts p s) (after_prefix q (drop (length p) s)) broken
unfolding after_prefix
after_strip [] q s = refl
after_strip (b ∷ p) q [] = refl
after_strip (b ∷ p) q (c ∷ s) = rw (eqb_comm b c) (byte-turn (eqb c b) (starts p s) _ _ (after_strip p q s))

module _ (key s : List ℕ) where
  pub after-no-key : starts key s ≡ false → after_key key s ≡ broken
  after-no-key h = simp (after_strip key (bytes "=") s, h)

  module _ (t : List ℕ) (h : starts key s ≡ true) (e : t ≡ drop (length key) s) where
    pub after-no-equals : starts (bytes "=") t ≡ false → after_key key s ≡ broken
    after-no-equals g = simp (after_strip key (bytes "=") s, h, ← e, after_strip (bytes "=") [] t, g)

    pub equals : (v : List ℕ) → starts (bytes "=") t ≡ true → v ≡ drop 1 t → after_key key s ≡ got v []
    unfolding after_prefix
    equals v g f = simp (after_strip key (bytes "=") s, h, ← e, after_strip (bytes "=") [] t, g, ← f)

pub ruleset key_steps = (after-no-key, after-no-equals, equals)

-- ---- the line feed, in the bytes in which it is looked for

module _ (looked s : List ℕ) (x : Read (List ℕ)) (l : x ≡ line looked s (first looked)) where
  found-none : None ≡ position (λ b. eqb b 10) looked → x ≡ broken
  found-none i = l ∙ cond-false _ _ _ (cond_none _ _ i)

  found-at : (n : ℕ) → Some n ≡ position (λ b. eqb b 10) looked → x ≡ got (take n s) (take (length s - (n + 1)) (drop (n + 1) s))
  found-at n i = let p = cond_some _ _ _ (sym i) in rw (take_rest, ← p.1) (l ∙ cond-true _ _ _ p.0)

module _ (most : ℕ) (s looked : List ℕ) (k : looked ≡ take most s) where
  short-first : short most (read_line s) ≡ line looked s (first looked)
  short-first = rw k (line-first most s)

  pub short-no-feed : None ≡ position (λ b. eqb b 10) looked → short most (read_line s) ≡ broken
  short-no-feed = found-none looked s _ short-first

  pub feed-at : (n : ℕ) → Some n ≡ position (λ b. eqb b 10) looked → short most (read_line s) ≡ got (take n s) (take (length s - (n + 1)) (drop (n + 1) s))
  feed-at = found-at looked s _ short-first

-- ---- the value: for those who cite `read_value`

whole-first : (s : List ℕ) → read_line s ≡ line s s (first s)
unfolding read_line
whole-first [] = refl
whole-first (b ∷ s) = feed-turn (eqb b 10) b s s _ (first s) (rw (whole-first s) (line-turn b (first s) s s))

module _ (key s : List ℕ) where
  pub no-key : starts key s ≡ false → read_value key s ≡ broken
  unfolding read_value
  no-key h = simp (after-no-key key s h)

  module _ (t : List ℕ) (h : starts key s ≡ true) (e : t ≡ drop (length key) s) where
    pub no-equals : starts (bytes "=") t ≡ false → read_value key s ≡ broken
    unfolding read_value
    no-equals g = simp (after-no-equals key s t h e g)

    module _ (v : List ℕ) (g : starts (bytes "=") t ≡ true) (f : v ≡ drop 1 t) where
      value-first : read_value key s ≡ line v v (first v)
      unfolding read_value
      value-first = simp (equals key s t h e v g f) (whole-first v)

      pub no-feed : None ≡ position (λ b. eqb b 10) v → read_value key s ≡ broken
      no-feed = found-none v v _ value-first

      pub value-line : (n : ℕ) → Some n ≡ position (λ b. eqb b 10) v → read_value key s ≡ got (take n v) (take (length v - (n + 1)) (drop (n + 1) v))
      value-line = found-at v v _ value-first

pub ruleset value_steps = (no-key, no-equals)
