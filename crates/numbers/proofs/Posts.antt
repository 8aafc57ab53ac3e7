-- What the calls over numbers leave: the promises, from each number after a call and its answer. Assumes nothing.
use Prim.Native.Nat.{ℕ}
use mathlib.Core.Path.{◌≡◌, refl, sym, ap, ◌∙◌}
use native.Mathlib.Omega.{arith}
use mathlib.Core.Bool.{true, false, cond}
use mathlib.Core.List.{List, [], ◌∷◌}
use lib.ListN.{length, replicate}
use lib.LanesLaws.{map-replicate}
use lib.Dec.{ltb, eqb}
use borrow.Author.Tests.{ne_eqb}
use Rattle.std.specs.Prelude.{Ok, Err}
use Rattle.std.proofs.lemmas.Bool.{cond-false}
use Rattle.tariff.specs.Prices.{opening_prices}
use Rattle.tariff.specs.declared.DayPrice.{DayPrice}
use Rattle.terms.specs.Terms.{valid_terms, terms_code}
use Rattle.terms.specs.declared.Terms.{Terms}
use Rattle.ledger.specs.declared.Answer.{Answer}
use Rattle.ledger.specs.declared.Event.{Event}
use Rattle.ledger.specs.Refusals.{refusal_code, answer_record}
use Rattle.ledger.specs.declared.Refusal.{Refusal}
use Rattle.ledger.proofs.Cases.{decide, positive}
use Rattle.moves.specs.Moves.{Moved, accepted, move_of}
use Rattle.moves.specs.declared.Move.{Move}
use Rattle.account.specs.Record.{blank_day, no_payment, fresh}
use Rattle.account.specs.Step.{MovesBy, arrays_of, cells_of, posted, step_of}
use Rattle.account.specs.declared.Account.{Account}
use Rattle.refinement.specs.Lists.{account_after}
use Rattle.posting.specs.Posting.{answer_of, row_of, left_after, row_left}
use Rattle.posting.proofs.Ledgers.{posts, posts-row}
use Rattle.numbers.specs.declared.DayNumbers.{DayNumbers}
use Rattle.numbers.specs.declared.PaymentNumbers.{PaymentNumbers}
use Rattle.numbers.specs.declared.TotalsNumbers.{TotalsNumbers}
use Rattle.numbers.specs.declared.Numbers.{Numbers}
use Rattle.numbers.specs.Numbers.{account_in, day_numbers, payment_numbers, totals_numbers, numbers_of, move_in, with_move, posted_in, row_in, OpensIn, PostsIn, PostsRowIn}
use Rattle.numbers.proofs.Cells.{come-back, moved-in, moved-of}

-- ---- one event

-- the account read after it is the record's after it
pub posted-account : (n : Numbers) (e : Event) → account_in (posted_in n e) ≡ (step_of (account_in n) e).account
unfolding posted_in step_of
posted-account n e = decide (eqb (move_in n e).code 0) (λ y. simp y (moved-in n e (move_in n e))) (λ f. simp f)

module _ (a : Account) (e : Event) where
  by-move : (m : Moved) → cond (eqb m.code 0) (with_move (numbers_of a) e m) (numbers_of a) ≡ numbers_of (posted a e m).account
  by-move m = decide (eqb m.code 0) (λ y. simp y (moved-of a e m)) (λ f. simp f)

  -- an account's numbers become those of the account after
  pub posted-numbers : posted_in (numbers_of a) e ≡ numbers_of (step_of a e).account
  unfolding posted_in step_of numbers_of
  posted-numbers =
      let move : Account → Moved = λ (x : Account). move_of a.terms (cells_of x e) (arrays_of x) e in
      ap (λ (x : Account). cond (eqb (move x).code 0) (with_move (numbers_of a) e (move x)) (numbers_of a)) (come-back a) ∙ by-move (move a)

pub posts-in : (n : Numbers) (e : Event) (m : Numbers) (r : Answer) → m ≡ posted_in n e → r ≡ answer_of (step_of (account_in n) e) → PostsIn n e m r
unfolding posted_in step_of
posts-in n e m r h g = record {
  account = posts (account_in n) e (account_in m) r (ap account_in h ∙ posted-account n e) g;
  lent = h;
  unchanged = λ f. h ∙ simp (ne_eqb (move_in n e).code 0 (λ z. f (ap (λ (x : Answer). x.code) g ∙ z)));
  numbers = λ a is. h ∙ ap (λ (x : Numbers). posted_in x e) is ∙ posted-numbers a e;
}

-- by what `AsAccount::moved` promises: a move is written, and a refusal leaves the numbers
module _ (n : Numbers) (e : Event) where
  abbrev after : Moved → Numbers
  after m = cond (eqb m.code 0) (with_move n e m) n

  abbrev answer : Moved → Answer
  answer m = record { code = m.code; value = m.value }

  pub accepts : (m : Move) → MovesBy (account_in n) e (Ok m) → PostsIn n e (with_move n e (accepted m)) (answer_record (Ok m.value))
  unfolding posted_in step_of
  accepts m p = posts-in n e _ _ (ap after p.move) (ap answer p.move)

  pub refuses : (r : Refusal) → MovesBy (account_in n) e (Err r) → PostsIn n e n (answer_record (Err r))
  unfolding posted_in step_of
  refuses r p =
      let not-0 = ne_eqb (refusal_code r) 0 (λ z. omega (arith, positive r, z)) in
      posts-in n e _ _ (sym (cond-false (eqb (refusal_code r) 0) _ _ not-0) ∙ ap after p.move) (ap answer p.move)

-- ---- an opening

module _ (t : Terms) (n : Numbers) where
  pub opens-in : valid_terms t ≡ true → OpensIn t n (numbers_of (fresh t)) 0
  unfolding terms_code
  opens-in v = record { code = simp v; account = λ h. come-back (fresh t); numbers = λ h. refl; unchanged = λ f. absurd (f refl) }

  -- by each array as it is filled
  pub opened : (s : TotalsNumbers) (cs : List DayPrice) (d : DayNumbers) (p : PaymentNumbers)
      → s ≡ totals_numbers (fresh t).totals → cs ≡ opening_prices t.price → d ≡ day_numbers blank_day → p ≡ payment_numbers no_payment
      → valid_terms t ≡ true
      → OpensIn t n (record { totals = s; charges = replicate 75 0; terms = t; prices = cs; days = replicate 400 d; payments = replicate 128 p; spare = 0; marks = replicate 400 0; warned = replicate 400 0 }) 0
  unfolding fresh numbers_of
  opened s cs d p hs hc hd hp v = rw (hs, hc, hd, hp, ← map-replicate day_numbers 400 blank_day, ← map-replicate payment_numbers 128 no_payment) (opens-in v)

  pub refused : valid_terms t ≡ false → OpensIn t n n 1
  unfolding terms_code
  refused v = record { code = simp v; account = λ h. absurd (omega (arith, h)); numbers = λ h. absurd (omega (arith, h)); unchanged = λ f. refl }

-- ---- a row

after-account : (es : List Event) (n : Numbers) → account_in (left_after posted_in n es) ≡ account_after (account_in n) es
unfolding left_after account_after
after-account [] n = refl
after-account (e ∷ es) n = after-account es (posted_in n e) ∙ ap (λ (a : Account). account_after a es) (posted-account n e)

after-numbers : (es : List Event) (a : Account) → left_after posted_in (numbers_of a) es ≡ numbers_of (account_after a es)
unfolding left_after account_after
after-numbers [] a = refl
after-numbers (e ∷ es) a = ap (λ (n : Numbers). left_after posted_in n es) (posted-numbers a e) ∙ after-numbers es (step_of a e).account

module _ (es : List Event) (cs : List ℕ) where
  row-account : (n : Numbers) → account_in (row_in n es cs) ≡ (row_of (account_in n) es cs).account
  unfolding row_left row_of
  row-account n = decide (ltb (length cs) (length es)) (λ y. simp y) (λ f. simp f (after-account es n))

  row-numbers : (a : Account) → row_in (numbers_of a) es cs ≡ numbers_of (row_of a es cs).account
  unfolding row_left row_of
  row-numbers a = decide (ltb (length cs) (length es)) (λ y. simp y) (λ f. simp f (after-numbers es a))

  pub posts-row-in : (n m : Numbers) (bytes : List ℕ) (r : ℕ)
      → m ≡ row_in n es cs → bytes ≡ (row_of (account_in n) es cs).bytes → r ≡ (row_of (account_in n) es cs).answer → PostsRowIn n es cs m bytes r
  unfolding row_left row_of
  posts-row-in n m bytes r h g k = record {
    account = posts-row (account_in n) es cs (account_in m) bytes r (ap account_in h ∙ row-account n) g k;
    lent = h;
    unchanged = λ f. h ∙ decide (ltb (length cs) (length es)) (λ y. simp y) (λ x. absurd (f (k ∙ simp x)));
    numbers = λ a is. h ∙ ap (λ (x : Numbers). row_in x es cs) is ∙ row-numbers a;
  }
