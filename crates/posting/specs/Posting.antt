-- What the posting calls promise of the account, of the answer and of the lent buffer: by the account's step, and in the ledger's terms.
use Rattle.std.specs.Prelude.{ℕ, ◌≡◌, cond, List, [], ◌∷◌, ◌++◌, length, drop, ltb}
use Rattle.ledger.specs.declared.Event.{Event}
use Rattle.ledger.specs.declared.Answer.{Answer}
use Rattle.ledger.specs.Calls.{single, row, answered, written}
use Rattle.account.specs.Step.{Stepped, step_of}
use Rattle.account.specs.declared.Account.{Account}
use Rattle.refinement.specs.Lists.{account_after, codes_of, IsCalled}

-- the answer to an event
abbrev pub answer_of : Stepped → Answer
answer_of p = record { code = p.code; value = p.value }

-- `post` of event e to account a: it leaves account b and answers r.
pub record Posts (a : Account) (e : Event) (b : Account) (r : Answer) : Type 0 where
  pub account : b ≡ (step_of a e).account
  pub answer : r ≡ answer_of (step_of a e)
  pub ledgers : IsCalled a (single e) (answered r) b

-- a row's account, buffer and own answer after it
pub record Row : Type 0 where
  pub account : Account
  pub bytes : List ℕ
  pub answer : ℕ

-- 16: "lent buffer shorter than the row"; "nothing posted, nothing written". Else each event is posted in order, its code in its own byte:
-- "Bytes past the row's length do not change. The row's own answer is 0".
unfoldable pub row_of : Account → List Event → List ℕ → Row
row_of a es buffer =
    cond (ltb (length buffer) (length es))
    (record { account = a; bytes = buffer; answer = 16 })
    (record { account = account_after a es; bytes = codes_of a es ++ drop (length es) buffer; answer = 0 })

-- the same of whatever an event leaves: after the events, one after another; and as it was, where the buffer is shorter
unfoldable pub left_after : {A : Type 0} → (A → Event → A) → A → List Event → A
left_after posted a [] = a
left_after posted a (e ∷ es) = left_after posted (posted a e) es

unfoldable pub row_left : {A : Type 0} → (A → Event → A) → A → List Event → List ℕ → A
row_left posted a es buffer = cond (ltb (length buffer) (length es)) a (left_after posted a es)

-- `post_row` of the events es to account a, with a lent buffer: it leaves account b and the bytes of the buffer, and answers r.
pub record PostsRow (a : Account) (es : List Event) (buffer : List ℕ) (b : Account) (after : List ℕ) (r : ℕ) : Type 0 where
  pub account : b ≡ (row_of a es buffer).account
  pub bytes : after ≡ (row_of a es buffer).bytes
  pub answer : r ≡ (row_of a es buffer).answer
  pub ledgers : IsCalled a (row es buffer) (written r after) b
