-- What holds of a row after its first i events: the pure part of `post_each`'s loop.
use mathlib.Core.Path.{◌≡◌, refl, sym, ap, ◌∙◌}
use Prim.Native.Nat.{ℕ, ◌+◌, ◌≤◌, ◌<◌}
use native.Mathlib.Nat.{le_antisymm}
use native.Mathlib.Numerals.{add-one}
use native.Mathlib.Omega.{arith}
use mathlib.Core.Bool.{true, false}
use mathlib.Core.List.{List, [], ◌++◌, append_assoc}
use lib.ListN.{length, get_or, set, take, drop, length-set, take-append-drop}
use lib.Seq.{drop-cons, drop-length, take-suc-set, drop-set-lt}
use lib.Dec.{ltb}
use Rattle.ledger.specs.declared.Event.{Event}
use Rattle.std.specs.Prelude.{Result}
use Rattle.ledger.specs.declared.Refusal.{Refusal}
use Rattle.ledger.specs.Refusals.{code_of}
use Rattle.account.specs.Step.{Stepped, step_of, stepped_of}
use Rattle.account.specs.declared.Account.{Account}
use Rattle.refinement.specs.Lists.{account_after, codes_of}
use Rattle.posting.specs.Posting.{row_of, left_after, row_left, PostsRow}
use Rattle.posting.proofs.Ledgers.{posts-row}

-- a row of the events es, posted to a, which is read as an account and of which an event leaves `posted`; with the lent buffer cs
module _ {A : Type 0} (account : A → Account) (posted : A → Event → A) (a : A) (es : List Event) (cs : List ℕ) where
  -- i events are done: h is left, the buffer is ys, and what is left of the row leads to the row's own end
  pub record Fine (i : ℕ) (h : A) (ys : List ℕ) : Type 0 where
    pub upto : i ≤ length es
    pub size : length ys ≡ length cs
    pub account-is : account_after (account h) (drop i es) ≡ account_after (account a) es
    pub left-is : left_after posted h (drop i es) ≡ left_after posted a es
    pub codes : take i ys ++ (codes_of (account h) (drop i es) ++ drop (length es) ys) ≡ codes_of (account a) es ++ drop (length es) cs

  pub starts : Fine 0 a cs
  starts = record { upto = omega arith; size = refl; account-is = refl; left-is = refl; codes = refl }

  -- event i is posted, and its code is written at i
  pub goes_on : (i : ℕ) (h : A) (ys : List ℕ) (d : Event) (b : A) (r : Result ℕ Refusal) (code : ℕ) → i < length es → length es ≤ length cs → Fine i h ys
      → b ≡ posted h (get_or es i d) → stepped_of (account b) r ≡ step_of (account h) (get_or es i d) → code ≡ code_of r → Fine (i + 1) b (set ys i code)
  unfolding account_after codes_of left_after
  goes_on i h ys d b r code less room f left step is =
      let stepped : account b ≡ (step_of (account h) (get_or es i d)).account = ap (λ (s : Stepped). s.account) step in
      let wrote : code ≡ (step_of (account h) (get_or es i d)).code = is ∙ ap (λ (s : Stepped). s.code) step in
      record {
        upto = omega arith;
        size = simp length-set f.size;
        account-is = rw (stepped, add-one i) (ap (account_after (account h)) (sym (drop-cons es i d less)) ∙ f.account-is);
        left-is = rw (left, add-one i) (ap (left_after posted h) (sym (drop-cons es i d less)) ∙ f.left-is);
        codes =
            rw (
              stepped,
              wrote,
              add-one i,
              take-suc-set ys i (step_of (account h) (get_or es i d)).code (omega (arith, f.size)),
              drop-set-lt (length es) ys i (step_of (account h) (get_or es i d)).code less,
              append_assoc,
            )
            (ap (λ (l : List Event). take i ys ++ (codes_of (account h) l ++ drop (length es) ys)) (sym (drop-cons es i d less)) ∙ f.codes);
      }

  -- every event is done: the row's answer is 0
  module _ (i : ℕ) (h : A) (ys : List ℕ) (room : ltb (length cs) (length es) ≡ false) (over : length es ≤ i) (f : Fine i h ys) where
    all : i ≡ length es
    all = le_antisymm f.upto over

    none : drop i es ≡ []
    none = ap (λ (k : ℕ). drop k es) all ∙ drop-length es

    pub ends : PostsRow (account a) es cs (account h) ys 0
    unfolding account_after codes_of row_of
    ends =
        let left : List Event → List ℕ = λ (l : List Event). take i ys ++ (codes_of (account h) l ++ drop (length es) ys) in
        posts-row (account a) es cs (account h) ys 0
        (simp room (ap (account_after (account h)) (sym none) ∙ f.account-is))
        (simp room (sym (take-append-drop i ys) ∙ ap (λ (k : ℕ). take i ys ++ drop k ys) all ∙ ap left (sym none) ∙ f.codes))
        (simp room)

    pub ends-left : h ≡ row_left posted a es cs
    unfolding left_after row_left
    ends-left = simp room (ap (left_after posted h) (sym none) ∙ f.left-is)

  -- the buffer is shorter than the row: 16, and all is as it was
  module _ (t : ltb (length cs) (length es) ≡ true) where
    pub short : PostsRow (account a) es cs (account a) cs 16
    unfolding row_of
    short = posts-row (account a) es cs (account a) cs 16 (simp t) (simp t) (simp t)

    pub short-left : a ≡ row_left posted a es cs
    unfolding row_left
    short-left = simp t
