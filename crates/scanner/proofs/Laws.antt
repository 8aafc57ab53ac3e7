-- What is read is taken from the front of the text, and the rest is its end: for those who cite specs/Scanner.antt. Assumes nothing.
use Rattle.std.proofs.Common.{◌≡◌, ℕ, suc, ◌+◌, ◌-◌, ◌≤◌, Bool, true, false, cond, leb, eqb, ltb, List, [], ◌∷◌, ◌++◌, length, drop, length-append, length-drop, refl, arith}
use borrow.Author.Tests.{leb-true, lt-ltb}
use Rattle.std.proofs.lemmas.Bool.{and_parts, cond-true, ltb-false}
use Rattle.std.proofs.lemmas.List.{drop-drop}
use Rattle.calendar.proofs.Sums.{decide}
use Rattle.scanner.specs.Scanner.{bytes, Read, got, broken, then, feed, read_line, after_prefix, read_value, is_number, value_from, read_number, is_date_form, date_value, read_date}
use Rattle.scanner.specs.Values.{short, number_line}
use Rattle.scanner.proofs.Numbers.{long-no-number}

-- by cases of what is read
pub by_read : {Z : Type 0} {A : Type 0} (x : Read A) → ((a : A) (r : List ℕ) → x ≡ got a r → Z) → (x ≡ broken → Z) → Z
by_read (got a r) g f = g a r refl
by_read broken g f = f refl

-- what follows a place that is at least n bytes on
pub record IsRest (n : ℕ) (s r : List ℕ) : Type 0 where
  pub at : ℕ
  pub least : n ≤ at
  pub within : at ≤ length s
  pub is : r ≡ drop at s

pub rest-shorter : {n : ℕ} {s r : List ℕ} → IsRest n s r → length r + n ≤ length s
rest-shorter h = rw h.is (simp length-drop (let l = h.least in let w = h.within in omega arith))

pub rest-is : {n : ℕ} {s r : List ℕ} → IsRest n s r → r ≡ drop (length s - length r) s
rest-is {n} {s} {r} h =
    let e : length r ≡ length s - h.at = rw h.is (length-drop h.at s) in
    let w = h.within in
    let f : length s - length r ≡ h.at = omega arith in
    rw f h.is

pub rest-then : {n m k : ℕ} {s r q : List ℕ} → IsRest n s r → IsRest m r q → k ≤ n + m → IsRest k s q
rest-then {n} {m} {k} {s} {r} {q} h g l =
    let e : length r ≡ length s - h.at = rw h.is (length-drop h.at s) in
    let a = h.least in let b = h.within in let c = g.least in let d = g.within in
    record { at = h.at + g.at; least = omega arith; within = omega arith; is = rw (g.is, h.is) (drop-drop g.at h.at s) }

pub rest-fewer : {n m : ℕ} {s r : List ℕ} → IsRest n s r → m ≤ n → IsRest m s r
rest-fewer h l = let a = h.least in record { at = h.at; least = omega arith; within = h.within; is = h.is }

-- of what is read at least n bytes are taken, by what it is
abbrev pub Taken : {A : Type 0} → (A → ℕ) → List ℕ → Read A → Type 0
Taken n s (got a r) = IsRest (n a) s r
Taken n s broken = Unit

module _ {B : Type 0} (k : B → ℕ) (s : List ℕ) where
  pub tested-taken : (t : Bool) (b : B) (r : List ℕ) → (t ≡ true → IsRest (k b) s r) → Taken k s (cond t (got b r) broken)
  tested-taken true b r h = h refl
  tested-taken false b r h = tt

  pub rest-taken : {n : ℕ} (m : B → ℕ) {r : List ℕ} (x : Read B) → IsRest n s r → Taken m r x → ((b : B) → k b ≤ n + m b) → Taken k s x
  rest-taken m (got b q) h g l = rest-then h g (l b)
  rest-taken m broken h g l = tt

  pub then-taken : {A : Type 0} (n : A → ℕ) (x : Read A) (f : A → List ℕ → Read B) → Taken n s x → ((a : A) (r : List ℕ) → IsRest (n a) s r → Taken k s (f a r)) → Taken k s (then x f)
  then-taken n (got a r) f h g = g a r h
  then-taken n broken f h g = tt

-- ---- a line and its value

line-turn : (b : ℕ) (s : List ℕ) (t : Bool) (x : Read (List ℕ)) → Taken (λ l. length l + 1) s x
    → Taken (λ l. length l + 1) (b ∷ s) (cond t (got [] s) (then x (λ (l r : List ℕ). got (b ∷ l) r)))
line-turn b s true x h = record { at = 1; least = omega arith; within = omega arith; is = refl }
line-turn b s false (got l r) h =
    let e = h.least in let w = h.within in
    record { at = suc h.at; least = omega arith; within = omega arith; is = h.is }
line-turn b s false broken h = tt

line-taken : (s : List ℕ) → Taken (λ l. length l + 1) s (read_line s)
unfolding read_line
line-taken [] = tt
line-taken (b ∷ s) = line-turn b s (eqb b feed) (read_line s) (line-taken s)

-- what follows the prefix
abbrev After : List ℕ → List ℕ → Read (List ℕ) → Type 0
After p s (got r none) = IsRest (length p) s r
After p s broken = Unit

prefix-turn : (c b : ℕ) (p s : List ℕ) (t : Bool) (x : Read (List ℕ)) → After p s x → After (c ∷ p) (b ∷ s) (cond t x broken)
prefix-turn c b p s true (got r none) h =
    let e = h.least in let w = h.within in
    record { at = suc h.at; least = omega arith; within = omega arith; is = h.is }
prefix-turn c b p s true broken h = tt
prefix-turn c b p s false x h = tt

after_taken : (p s : List ℕ) → After p s (after_prefix p s)
unfolding after_prefix
after_taken [] s = record { at = 0; least = omega arith; within = omega arith; is = refl }
after_taken (c ∷ p) [] = tt
after_taken (c ∷ p) (b ∷ s) = prefix-turn c b p s (eqb c b) (after_prefix p s) (after_taken p s)

module _ (key s : List ℕ) where
  value-of : (x : Read (List ℕ)) → After (key ++ bytes "=") s x → Taken (λ v. length v + (length key + 2)) s (then x (λ (r none : List ℕ). read_line r))
  value-of (got r none) h = rest-taken _ s _ (read_line r) h (line-taken r) (λ l. simp length-append (omega arith))
  value-of broken h = tt

  pub value-taken : Taken (λ v. length v + (length key + 2)) s (read_value key s)
  unfolding read_value
  value-taken = value-of (after_prefix (key ++ bytes "=") s) (after_taken (key ++ bytes "=") s)

  -- a number has a digit
  pub number-taken : Taken (λ n. length key + 3) s (read_number key s)
  unfolding read_number is_number
  number-taken =
      then-taken _ s _ (read_value key s) _ value-taken (λ v r h.
      tested-taken _ s (is_number v) (value_from 0 v) r (λ t.
      let l = leb-true 1 (length v) (and_parts (leb 1 (length v)) _ t).0 in
      rest-fewer h (omega arith)))

  pub date-taken : Taken (λ d. length key + 2) s (read_date key s)
  unfolding read_date
  date-taken =
      then-taken _ s _ (read_value key s) _ value-taken (λ v r h.
      tested-taken _ s (is_date_form v) (date_value v) r (λ t. rest-fewer h (omega arith)))

-- ---- a value, its key, the equals sign and the line feed are all that is taken

abbrev pub Split : List ℕ → ℕ → Read (List ℕ) → Type 0
Split s n (got l r) = length s ≡ length l + (length r + n)
Split s n broken = Unit

split-turn : (b : ℕ) (s : List ℕ) (t : Bool) (x : Read (List ℕ)) → Split s 1 x → Split (b ∷ s) 1 (cond t (got [] s) (then x (λ (l r : List ℕ). got (b ∷ l) r)))
split-turn b s true x h = omega arith
split-turn b s false (got l r) h = omega arith
split-turn b s false broken h = tt

line-split : (s : List ℕ) → Split s 1 (read_line s)
unfolding read_line
line-split [] = tt
line-split (b ∷ s) = split-turn b s (eqb b feed) (read_line s) (line-split s)

abbrev Rest : List ℕ → List ℕ → Read (List ℕ) → Type 0
Rest p s (got r none) = length s ≡ length p + length r
Rest p s broken = Unit

rest-turn : (c b : ℕ) (p s : List ℕ) (t : Bool) (x : Read (List ℕ)) → Rest p s x → Rest (c ∷ p) (b ∷ s) (cond t x broken)
rest-turn c b p s true (got r none) h = omega arith
rest-turn c b p s true broken h = tt
rest-turn c b p s false x h = tt

after-rest : (p s : List ℕ) → Rest p s (after_prefix p s)
unfolding after_prefix
after-rest [] s = omega arith
after-rest (c ∷ p) [] = tt
after-rest (c ∷ p) (b ∷ s) = rest-turn c b p s (eqb c b) (after_prefix p s) (after-rest p s)

module _ (key s : List ℕ) where
  value_line : (rest : List ℕ) (x : Read (List ℕ)) → length s ≡ length (key ++ bytes "=") + length rest → Split rest 1 x → Split s (length key + 2) x
  value_line rest (got v r) h g = omega (arith, length-append key (bytes "="))
  value_line rest broken h g = tt

  value-rest : (x : Read (List ℕ)) → Rest (key ++ bytes "=") s x → Split s (length key + 2) (then x (λ (rest none : List ℕ). read_line rest))
  value-rest (got rest none) h = value_line rest (read_line rest) h (line-split rest)
  value-rest broken h = tt

  pub value-split : Split s (length key + 2) (read_value key s)
  unfolding read_value
  value-split = value-rest (after_prefix (key ++ bytes "=") s) (after-rest (key ++ bytes "=") s)

-- ---- the lines that are short enough

short-fits : (s : List ℕ) (x : Read (List ℕ)) → Taken (λ l. length l + 1) s x → short (length s) x ≡ x
short-fits s (got v r) h = cond-true _ _ _ (lt-ltb (length v) (length s) (let l = h.least in let w = h.within in omega arith))
short-fits s broken h = refl

-- a line and its line feed are part of the text
pub line_short : (s : List ℕ) → short (length s) (read_line s) ≡ read_line s
line_short s = short-fits s (read_line s) (line-taken s)

short-number : (x : Read (List ℕ)) → then x (λ (v r : List ℕ). cond (is_number v) (got (value_from 0 v) r) broken) ≡ then (short 11 x) (λ (v r : List ℕ). cond (is_number v) (got (value_from 0 v) r) broken)
short-number (got v r) = decide (ltb (length v) 11) (λ t. simp t) (λ t. simp (t, long-no-number v (ltb-false _ _ t)))
short-number broken = refl

-- a number and its line feed have eleven bytes at most
pub number_short : (s : List ℕ) → number_line s ≡ then (short 11 (read_line s)) (λ (v r : List ℕ). cond (is_number v) (got (value_from 0 v) r) broken)
unfolding number_line
number_short s = short-number (read_line s)
