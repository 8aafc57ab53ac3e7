-- Lists of posting calls, and what is seen of them by the promises of the calls: of any interface, of the Rattle calls, and of the C calls.
use Rattle.std.specs.Prelude.{ℕ, ◌≡◌, List, [], ◌∷◌, Ok}
use Rattle.terms.specs.declared.Terms.{Terms}
use Rattle.ledger.specs.declared.Answer.{Answer}
use Rattle.ledger.specs.declared.Event.{Event}
use Rattle.ledger.specs.Calls.{Call, single, row, Back, answered, written}
use Rattle.account.specs.Step.{IsOpened}
use Rattle.account.specs.declared.Account.{Account}
use Rattle.posting.specs.Posting.{Posts, PostsRow}
use Rattle.readings.specs.Readings.{Readings, ShowsReadings}
use Rattle.numbers.specs.Numbers.{account_in, OpensIn, PostsIn, PostsRowIn}
use Rattle.numbers.specs.declared.Numbers.{Numbers}

-- What is seen of a call: what it hands back, and the readings after it.
pub record Seen : Type 0 where
  pub back : Back
  pub after : Readings

-- What a caller keeps of an account from call to call; and by the promises of the calls what an opening may leave that made an account, what a
-- post or a row may leave of it and answer, with the bytes of the row's buffer, and what readings it may show.
pub record Interface : Type 1 where
  pub Kept : Type 0
  pub Opens : Terms → Kept → Type 0
  pub Posts : Kept → Event → Kept → Answer → Type 0
  pub PostsRow : Kept → List Event → List ℕ → Kept → List ℕ → ℕ → Type 0
  pub Shows : Kept → Readings → Type 0

-- `account::open`, `posting::post`, `posting::post_row`, and the reading calls of the account's totals
abbrev pub rattle : Interface
rattle = record {
  Kept = Account;
  Opens = λ t a. IsOpened t (Ok a);
  Posts = Posts;
  PostsRow = PostsRow;
  Shows = λ a r. ShowsReadings a.totals r;
}

-- `prepay_open`, whatever stood there before, `prepay_post`, `prepay_row` and `prepay_readings`
abbrev pub in_c : Interface
in_c = record {
  Kept = Numbers;
  Opens = λ t n. (before : Numbers) × OpensIn t before n 0;
  Posts = PostsIn;
  PostsRow = PostsRowIn;
  Shows = λ n r. ShowsReadings (account_in n).totals r;
}

-- the call that gets the account k may leave it as n and hand back r
abbrev pub Called : (i : Interface) → i.Kept → Call → Back → i.Kept → Type 0
Called i k (single e) r n = (a : Answer) × i.Posts k e n a × (r ≡ answered a)
Called i k (row es buffer) r n = (a : ℕ) × (bytes : List ℕ) × i.PostsRow k es buffer n bytes a × (r ≡ written a bytes)

-- "each posting call gets the account as the call before left it"
abbrev pub RunsFrom : (i : Interface) → i.Kept → List Call → List Seen → Type 0
RunsFrom i k [] [] = Unit
RunsFrom i k [] (v ∷ vs) = ⊥
RunsFrom i k (c ∷ cs) [] = ⊥
RunsFrom i k (c ∷ cs) (v ∷ vs) = (n : i.Kept) × Called i k c v.back n × i.Shows n v.after × RunsFrom i n cs vs

-- "the first a fresh one": what the opening makes of the terms, by its promise, with the readings `first`; else "no account made".
abbrev pub Runs : Interface → Terms → Readings → List Call → List Seen → Type 0
Runs i t first cs vs = (k : i.Kept) × i.Opens t k × i.Shows k first × RunsFrom i k cs vs
