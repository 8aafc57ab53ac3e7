-- Demand 3: by induction over the calls, from any account that stands for a ledger; so over lists of the C calls, which are Rattle calls of the
-- account that the numbers are read as.
-- Assumes nothing.
use Prim.Native.Nat.{ℕ}
use mathlib.Core.Path.{◌≡◌, refl, sym, ap, ◌∙◌}
use mathlib.Core.Bool.{cond}
use mathlib.Core.List.{List, [], ◌∷◌, ◌++◌}
use mathlib.Core.Logic.{◌↔◌}
use lib.ListN.{length, get_or, drop}
use lib.Dec.{ltb}
use lib.IntN.{ℤ, pos, nat_abs, ◌+ℤ◌, ◌-ℤ◌, +ℤ_idr, +ℤ_invr, +ℤ_comm, +ℤ-neg_ℤ_cancel}
use borrow.Author.Tests.{eqb-true}
use Rattle.terms.specs.Terms.{terms_code}
use Rattle.terms.specs.declared.Terms.{Terms}
use Rattle.ledger.specs.declared.Event.{Event}
use Rattle.ledger.specs.Entries.{usage_day, estimate_cost_of}
use Rattle.ledger.specs.Rules.{Ledger}
use Rattle.ledger.specs.Sums.{settled, standing_cost}
use Rattle.ledger.specs.Ledger.{opening, ledger_step, ledger_after}
use Rattle.ledger.specs.Calls.{Call, single, row, Back, answered, written, fed, ledger_called, ledger_codes, ledger_back}
use Rattle.ledger.specs.Invariant.{Invariant}
use Rattle.ledger.proofs.Cases.{decide}
use Rattle.ledger.proofs.Rows.{code_at}
use Rattle.ledger.proofs.Identity.{settled_is}
use Rattle.ledger.proofs.Disconnect.{disconnect-granted}
use Rattle.ledger.proofs.Standing.{standing-none}
use Rattle.account.specs.Record.{fresh}
use Rattle.account.specs.Step.{Opened}
use Rattle.account.specs.declared.Account.{Account}
use Rattle.refinement.specs.Lists.{account_after}
use Rattle.refinement.specs.Agree.{Represents}
use Rattle.refinement.proofs.Lists.{represents-fresh, represents-after, opened-valid}
use Rattle.posting.specs.Posting.{row_of}
use Rattle.posting.proofs.Ledgers.{answer_back, row_back, row-account, posts, posts-row}
use Rattle.readings.specs.Readings.{balance_of, settled_of, Readings, ShowsReadings}
use Rattle.readings.proofs.After.{balance-reading, settled-reading, is_balance, is_plan, is_service, is_settled, is_estimates}
use Rattle.numbers.specs.Numbers.{account_in, numbers_of}
use Rattle.numbers.specs.declared.Numbers.{Numbers}
use Rattle.numbers.proofs.Posts.{posts-in, posts-row-in, opens-in}
use Rattle.demand.specs.Calls.{Seen, Interface, rattle, in_c, Called, RunsFrom}
use Rattle.demand.specs.Demand3.{shows, codes_in, CallHolds, CallsHold, Demand3}

-- ---- one call, from an account that stands for a ledger

module _ (t : Terms) (a : Account) (l : Ledger) (s : Represents t a l) where
  -- what the call hands back is the ledger's, and the account that it leaves stands for the ledger fed its events
  record Follows (c : Call) (r : Back) (b : Account) : Type 0 where
    back : r ≡ ledger_back t l c
    stands : Represents t b (ledger_called t l c)

  follows : (c : Call) (r : Back) (b : Account) → Called rattle a c r b → Follows c r b
  unfolding fed account_after ledger_after
  follows (single e) r b (n, p, h) = record {
    back = h ∙ ap answered p.answer ∙ answer_back t a l s e;
    stands = rw p.account (represents-after t (e ∷ []) a l s);
  }
  follows (row es buffer) r b (n, bytes, p, h) = record {
    back = h ∙ ap (λ (k : ℕ). written k bytes) p.answer ∙ ap (written (row_of a es buffer).answer) p.bytes ∙ row_back t a l s es buffer;
    stands = rw (p.account ∙ row-account a es buffer) (represents-after t (fed (row es buffer)) a l s);
  }

  -- what the readings of the account show
  shows-is : (r : Readings) → ShowsReadings a.totals r → r ≡ shows t l
  shows-is r q =
      let balance : r.balance ≡ l.balance = q.balance.totals ∙ balance-reading t a l s in
      let plan : r.plan ≡ l.plan = q.plan.totals ∙ s.agree.sums.plan in
      let on : r.on ≡ l.on = q.on.totals ∙ s.agree.sums.on in
      let settled-read = q.settled.totals ∙ settled-reading t a l s in
      let standing-read = q.standing.totals ∙ s.agree.sums.standing in
      λ i. record { balance = balance i; plan = plan i; on = on i; settled = settled-read i; standing = standing-read i }

-- ---- what the ledger shows holds together

-- a sum that leaves a number as it is, is 0
adds-nothing : (z : ℤ) (n : ℕ) → z +ℤ pos n ≡ z → n ≡ 0
adds-nothing z n h = ap nat_abs (sym (+ℤ-neg_ℤ_cancel (pos n) z) ∙ ap (λ (x : ℤ). x -ℤ z) (+ℤ_comm (pos n) z ∙ h) ∙ +ℤ_invr z)

module _ (t : Terms) (l : Ledger) (q : Invariant t l) where
  exact : (l.balance -ℤ pos l.plan ≡ settled t l.list) ↔ ((u : ℕ) → estimate_cost_of (usage_day t l.list u) ≡ 0)
  exact = (
    λ h. (standing-none t l q).0 (adds-nothing (l.balance -ℤ pos l.plan) (standing_cost t l.list) (settled_is t l q ∙ sym h)),
    λ z. rw (← settled_is t l q, (standing-none t l q).1 z) (sym (+ℤ_idr (l.balance -ℤ pos l.plan))),
  )

-- what a call hands back beside the codes of the events that it was fed
spare : Call → List ℕ
spare (single e) = []
spare (row es buffer) = cond (ltb (length buffer) (length es)) buffer (drop (length es) buffer)

codes-back : (t : Terms) (l : Ledger) (c : Call) → codes_in (ledger_back t l c) ≡ ledger_codes t l (fed c) ++ spare c
unfolding ledger_back ledger_codes fed spare
codes-back t l (single e) = refl
codes-back t l (row es buffer) = decide (ltb (length buffer) (length es)) (λ y. simp y) (λ n. simp n)

-- the code of an event, at its place
code-back : (t : Terms) (l : Ledger) (c : Call) (es : List Event) (e : Event) (rest : List Event) → fed c ≡ es ++ (e ∷ rest)
    → get_or (codes_in (ledger_back t l c)) (length es) 1 ≡ (ledger_step t (ledger_after t l es) e).answer.code
code-back t l c es e rest h =
    ap (λ (k : List ℕ). get_or k (length es) 1) (codes-back t l c ∙ ap (λ (k : List Event). ledger_codes t l k ++ spare c) h)
    ∙ code_at t es e rest (spare c) 1 l

call-holds : (t : Terms) (l : Ledger) (c : Call) (v : Seen) → Invariant t (ledger_called t l c) → v.back ≡ ledger_back t l c
    → v.after ≡ shows t (ledger_called t l c) → CallHolds t l c v
call-holds t l c v q b h = record {
  back = b;
  after = h;
  identity = rw h (settled_is t (ledger_called t l c) q);
  exactly = rw h (exact t (ledger_called t l c) q);
  disconnects = λ es e rest g k d f. rw (b, code-back t l c es e rest g) (disconnect-granted t (ledger_after t l es) e (eqb-true e.sort 10 k) d f);
}

-- ---- every list of Rattle calls

pub calls-hold : (t : Terms) (cs : List Call) (vs : List Seen) (a : Account) (l : Ledger) → Represents t a l → RunsFrom rattle a cs vs
    → CallsHold t l cs vs
calls-hold t [] [] a l s q = tt
calls-hold t [] (v ∷ vs) a l s q = absurd q
calls-hold t (c ∷ cs) [] a l s q = absurd q
calls-hold t (c ∷ cs) (v ∷ vs) a l s (b, p, r, q) =
    let f : Follows t a l s c v.back b = follows t a l s c v.back b p in (
      call-holds t l c v f.stands.invariant f.back (shows-is t b (ledger_called t l c) f.stands v.after r),
      calls-hold t cs vs b (ledger_called t l c) f.stands q,
    )

-- ---- and something is seen

read : Account → Readings
read a = record { balance = balance_of a.totals; plan = a.totals.plan; on = a.totals.on; settled = settled_of a.totals; standing = a.totals.standing }

reads : (a : Account) → ShowsReadings a.totals (read a)
unfolding read
reads a = record {
  balance = is_balance a.totals _ refl;
  plan = record { totals = refl; ledgers = is_plan a.totals };
  on = record { totals = refl; ledgers = is_service a.totals };
  settled = is_settled a.totals _ refl;
  standing = record { totals = refl; ledgers = is_estimates a.totals };
}

-- by an interface whose every call may leave and show something
module _ (i : Interface)
    (call : (k : i.Kept) (c : Call) → (r : Back) × (n : i.Kept) × Called i k c r n) (show : (k : i.Kept) → (v : Readings) × i.Shows k v) where
  runs_of : (cs : List Call) (k : i.Kept) → (vs : List Seen) × RunsFrom i k cs vs
  runs_of [] k = ([], tt)
  runs_of (c ∷ cs) k =
      let (r, n, p) = call k c in
      let more = runs_of cs n in
      (record { back = r; after = (show n).0 } ∷ more.0, (n, p, (show n).1, more.1))

calls : (a : Account) (c : Call) → (r : Back) × (b : Account) × Called rattle a c r b
calls a (single e) = (_, _, (_, posts a e _ _ refl refl, refl))
calls a (row es buffer) = (_, _, (_, _, posts-row a es buffer _ _ _ refl refl refl, refl))

pub demand-3 : (t : Terms) → Demand3 rattle t
unfolding terms_code
demand-3 t = record {
  every = λ first cs vs (a, is, f, q).
      let s : Represents t a opening = rw (ap (λ (o : Opened). o.account) is) (represents-fresh t (opened-valid t a is)) in
      (shows-is t a opening s first f, calls-hold t cs vs a opening s q);
  some = λ v cs. let r = runs_of rattle calls (λ a. (read a, reads a)) cs (fresh t) in (read (fresh t), r.0, (fresh t, simp v, reads (fresh t), r.1));
}

-- ---- the C calls: each is the Rattle call of the account that the numbers are read as

called-in : (n : Numbers) (c : Call) (r : Back) (m : Numbers) → Called in_c n c r m → Called rattle (account_in n) c r (account_in m)
called-in n (single e) r m (a, p, h) = (a, p.account, h)
called-in n (row es buffer) r m (a, bytes, p, h) = (a, bytes, p.account, h)

runs-in : (cs : List Call) (vs : List Seen) (n : Numbers) → RunsFrom in_c n cs vs → RunsFrom rattle (account_in n) cs vs
runs-in [] [] n q = tt
runs-in [] (v ∷ vs) n q = absurd q
runs-in (c ∷ cs) [] n q = absurd q
runs-in (c ∷ cs) (v ∷ vs) n (m, p, r, q) = (account_in m, called-in n c v.back m p, r, runs-in cs vs m q)

calls-in : (n : Numbers) (c : Call) → (r : Back) × (m : Numbers) × Called in_c n c r m
calls-in n (single e) = (_, _, (_, posts-in n e _ _ refl refl, refl))
calls-in n (row es buffer) = (_, _, (_, _, posts-row-in es buffer n _ _ _ refl refl refl, refl))

pub demand-3-in-c : (t : Terms) → Demand3 in_c t
demand-3-in-c t = record {
  every = λ first cs vs (n, (before, o), f, q).
      (demand-3 t).every first cs vs (account_in n, λ i. record { account = o.account refl i; code = o.code i }, f, runs-in cs vs n q);
  some = λ v cs.
      let n = numbers_of (fresh t) in
      let show : (m : Numbers) → (r : Readings) × in_c.Shows m r = λ m. (read (account_in m), reads (account_in m)) in
      let r = runs_of in_c calls-in show cs n in
      ((show n).0, r.0, (n, (n, opens-in t n v), (show n).1, r.1));
}
