-- The words of `do` and their sorts. Assumes nothing.
use Rattle.std.proofs.Common.{◌≡◌, ℕ, ◌≤◌, Bool, true, false, cond, not, ◌&&◌, leb, eqb, None, List, [], ◌∷◌, length, get_or, refl, rules}
use borrow.Author.Tests.{leb-true, eq-eqb, ne_eqb}
use mathlib.Core.Logic.{◌≢◌}
use Rattle.std.proofs.lemmas.Bool.{and_parts, false_from_ne_true, false≢true}
use Rattle.std.proofs.lemmas.Slice.Eq.{compares_Decides}
use Rattle.scanner.specs.Scanner.{same}
use Rattle.text.specs.Text.{SortRow, sorts, sort_in}
use Rattle.text.specs.Words.{sort_of}

same_is : (p w : List ℕ) → same p w ≡ true → p ≡ w
unfolding same
same_is p w e = (compares_Decides same (search rules) p w).0 e

-- ---- each word has four bytes, or three in sort 1

abbrev pub least : ℕ → ℕ
least sort = cond (eqb sort 1) 3 4

abbrev sound : List SortRow → Bool
sound [] = true
sound (r ∷ rows) = leb (least r.sort) (length r.word) && sound rows

-- whether each word differs in its length n or in its first byte b
abbrev apart : ℕ → ℕ → List SortRow → Bool
apart n b [] = true
apart n b (r ∷ rows) = not (eqb n (length r.word) && eqb b (get_or r.word 0 0)) && apart n b rows

module _ (w : List ℕ) where
  named : (b : Bool) (k n : ℕ) → (b ≡ true → least k ≤ length w) → (n ≢ 0 → least n ≤ length w) → cond b k n ≢ 0 → least (cond b k n) ≤ length w
  named true k n t f z = t refl
  named false k n t f z = f z

  long-in : (rows : List SortRow) → sound rows ≡ true → sort_in rows w ≢ 0 → least (sort_in rows w) ≤ length w
  unfolding sort_in
  long-in [] h z = absurd (z refl)
  long-in (r ∷ rows) h z =
      let s = and_parts (leb (least r.sort) (length r.word)) (sound rows) h in
      named (same r.word w) r.sort (sort_in rows w) (λ e. rw (same_is r.word w e) at (leb-true (least r.sort) (length r.word) s.0)) (long-in rows s.1) z

  pub long-enough : sort_in sorts w ≢ 0 → least (sort_in sorts w) ≤ length w
  long-enough = long-in sorts refl

  other : (p : List ℕ) → not (eqb (length w) (length p) && eqb (get_or w 0 0) (get_or p 0 0)) ≡ true → same p w ≡ false
  other p h = false_from_ne_true (same p w) (λ e. false≢true (simp (same_is p w e, eq-eqb (length w) (length w) refl, eq-eqb (get_or w 0 0) (get_or w 0 0) refl) at h))

  none-in : (rows : List SortRow) → apart (length w) (get_or w 0 0) rows ≡ true → sort_in rows w ≡ 0
  unfolding sort_in
  none-in [] h = refl
  none-in (r ∷ rows) h = let a = and_parts _ (apart (length w) (get_or w 0 0) rows) h in simp (other r.word a.0) (none-in rows a.1)

  no-word : (n b : ℕ) → length w ≡ n → get_or w 0 0 ≡ b → apart n b sorts ≡ true → None ≡ sort_of w
  unfolding sort_of
  no-word n b l e h = simp (none-in sorts (rw (l, e) h))

  pub other-length : length w ≢ 3 → length w ≢ 4 → length w ≢ 5 → length w ≢ 6 → length w ≢ 7 → length w ≢ 8 → length w ≢ 10 → None ≡ sort_of w
  other-length a b c d e f g =
      no-word (length w) _ refl refl (simp (ne_eqb (length w) 3 a, ne_eqb (length w) 4 b, ne_eqb (length w) 5 c, ne_eqb (length w) 6 d, ne_eqb (length w) 7 e, ne_eqb (length w) 8 f, ne_eqb (length w) 10 g))

  pub not-four : length w ≡ 4 → get_or w 0 0 ≢ 114 → get_or w 0 0 ≢ 119 → get_or w 0 0 ≢ 109 → get_or w 0 0 ≢ 112 → None ≡ sort_of w
  not-four l a b c d = no-word 4 _ l refl (simp (ne_eqb (get_or w 0 0) 114 a, ne_eqb (get_or w 0 0) 119 b, ne_eqb (get_or w 0 0) 109 c, ne_eqb (get_or w 0 0) 112 d))

  pub not-five : length w ≡ 5 → get_or w 0 0 ≢ 112 → None ≡ sort_of w
  not-five l a = no-word 5 _ l refl (simp (ne_eqb (get_or w 0 0) 112 a))

  pub not-six : length w ≡ 6 → get_or w 0 0 ≢ 99 → None ≡ sort_of w
  not-six l a = no-word 6 _ l refl (simp (ne_eqb (get_or w 0 0) 99 a))

  pub not-eight : length w ≡ 8 → get_or w 0 0 ≢ 101 → None ≡ sort_of w
  not-eight l a = no-word 8 _ l refl (simp (ne_eqb (get_or w 0 0) 101 a))

  pub not-ten : length w ≡ 10 → get_or w 0 0 ≢ 100 → None ≡ sort_of w
  not-ten l a = no-word 10 _ l refl (simp (ne_eqb (get_or w 0 0) 100 a))

pub ruleset other_words = (other-length, not-four, not-five, not-six, not-eight, not-ten)
