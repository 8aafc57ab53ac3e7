-- Demand 3 on the functions that run: where the contracts of an interface's calls, as the toolchain compiled them, are the steps of demand 3's
-- relation, whatever they leave of a list of calls is what demand 3 claims. Those of `account::open`, `post`, `post_row` and the reading calls
-- are here, those of the C calls in `head`. A weaker `ensures` of one of them is refused, and so is a `requires`.
-- Assumes nothing.
use mathlib.Core.Path.{◌≡◌, subst}
use mathlib.Core.List.{List, [], ◌∷◌}
use seplogic.Ra.Ura.{Ura}
use base.Logic.{SProp, ent, sep, emp, never, ex, id⊢, via, fst∗, snd∗, ex_e, never_e}
use prog.Memory.{Memory}
use prog.Routine.{Routine}
use types.Logic.{Logic}
use contract.Monad.{Fun, fact, fact_i, fact_mono, fact_use}
use contract.Lifetimes.{Lfts}
use denote.Triple.Entry.{Args, Res}
use denote.Triple.Clauses.{Ended, Clauses, Lasts, at_exit}
use Rattle.std.specs.Prelude.{Result, Ok}
use Rattle.terms.specs.declared.Terms.{Terms}
use Rattle.ledger.specs.declared.Refusal.{Refusal}
use Rattle.ledger.specs.Refusals.{code_of, answer_record}
use Rattle.ledger.specs.Ledger.{opening}
use Rattle.ledger.specs.Calls.{Call, single, row, Back, answered, written}
use Rattle.moves.specs.declared.Totals.{Totals}
use Rattle.account.specs.Step.{IsOpened}
use Rattle.account.specs.declared.Account.{Account}
use Rattle.account.specs.contracts.open as open-call
use Rattle.posting.specs.Posting.{Posts, PostsRow}
use Rattle.posting.specs.contracts.post as post
use Rattle.posting.specs.contracts.post_row as row-call
use Rattle.readings.specs.Readings.{IsBalance, IsPlan, IsService, IsSettled, IsEstimates, Readings, ShowsReadings}
use Rattle.readings.specs.contracts.balance as balance
use Rattle.readings.specs.contracts.plan as plan
use Rattle.readings.specs.contracts.service as service
use Rattle.readings.specs.contracts.settled as settled
use Rattle.readings.specs.contracts.estimates as estimates
use Rattle.demand.specs.Calls.{Seen, Interface, rattle, Called, RunsFrom}
use Rattle.demand.specs.Demand3.{shows, CallsHold, Demand3}
use Rattle.demand.proofs.Lists.{demand-3}

module _ {M : Type 1} (𝓤 : Ura M) where
  -- ---- the contract of a call

  -- two facts from what stands side by side
  pub both : {P Q : SProp 𝓤} (φ ψ : Type 0) → ent 𝓤 P (fact 𝓤 φ) → ent 𝓤 Q (fact 𝓤 ψ) → ent 𝓤 (sep 𝓤 P Q) (fact 𝓤 (φ × ψ))
  both {P} {Q} φ ψ f g =
      fact_use 𝓤 φ (via 𝓤 P (fst∗ 𝓤 P Q) f) (λ x. fact_use 𝓤 ψ (via 𝓤 Q (snd∗ 𝓤 P Q) g) (λ y. fact_i 𝓤 (φ × ψ) (sep 𝓤 P Q) (x, y)))

  module _ (T : Ended) (c : Clauses 𝓤 T) where
    -- a run of the function whose compiled contract is c: with what lifetimes and arguments; what it left behind each argument, and answered
    pub record Run : Type 0 where
      pub lifetimes : Lfts T.signature.lifetimes
      pub args : Args T.signature lifetimes
      pub ghost : (c lifetimes args).ghost
      pub left : Lasts T lifetimes args
      pub answer : Res T.signature lifetimes

    -- what the contract says of what a run leaves and answers
    abbrev pub Ensures : Run → SProp 𝓤
    Ensures x = (c x.lifetimes x.args).ensures x.ghost x.answer (at_exit T x.lifetimes x.args x.left)

    -- of some run that is as ψ has it
    abbrev pub Says : (Run → Type 0) → SProp 𝓤
    Says ψ = ex 𝓤 (λ (x : Run). sep 𝓤 (fact 𝓤 (ψ x)) (Ensures x))

    -- It asks nothing of a call, its `requires` is had for nothing; and it promises φ of every run.
    pub record Promises (φ : Run → Type 0) : Type 1 where
      pub asks : (κs : Lfts T.signature.lifetimes) (args : Args T.signature κs) (g : (c κs args).ghost) → ent 𝓤 (emp 𝓤) ((c κs args).requires g)
      pub says : (x : Run) → ent 𝓤 (Ensures x) (fact 𝓤 (φ x))

    pub promised : {φ : Run → Type 0} → Promises φ → (ψ : Run → Type 0) (χ : Type 0) → ((x : Run) → ψ x → φ x → χ) → ent 𝓤 (Says ψ) (fact 𝓤 χ)
    promised {φ} p ψ χ f = ex_e 𝓤 _ (λ x. via 𝓤 _ (both (ψ x) (φ x) (id⊢ 𝓤 _) (p.says x)) (fact_mono 𝓤 _ χ (λ q. f x q.0 q.1)))

  -- ---- a list of calls of an interface

  module _ (i : Interface) (CallSays : i.Kept → Call → Back → i.Kept → SProp 𝓤) (ReadingsSay : i.Kept → Readings → SProp 𝓤) where
    -- each call gets the account as the call before left it
    unfoldable pub ListSays : i.Kept → List Call → List Seen → SProp 𝓤
    ListSays k [] [] = emp 𝓤
    ListSays k [] (v ∷ vs) = never 𝓤
    ListSays k (c ∷ cs) [] = never 𝓤
    ListSays k (c ∷ cs) (v ∷ vs) = ex 𝓤 (λ (n : i.Kept). sep 𝓤 (CallSays k c v.back n) (sep 𝓤 (ReadingsSay n v.after) (ListSays n cs vs)))

    -- what the contracts say of a call is what the interface allows, so the list runs as demand 3's relation says
    module _
        (called : (k : i.Kept) (c : Call) (r : Back) (n : i.Kept) → ent 𝓤 (CallSays k c r n) (fact 𝓤 (Called i k c r n)))
        (reads : (k : i.Kept) (v : Readings) → ent 𝓤 (ReadingsSay k v) (fact 𝓤 (i.Shows k v))) where
      runs : (cs : List Call) (vs : List Seen) (k : i.Kept) → ent 𝓤 (ListSays k cs vs) (fact 𝓤 (RunsFrom i k cs vs))
      unfolding ListSays
      runs [] [] k = fact_i 𝓤 (RunsFrom i k [] []) (emp 𝓤) tt
      runs [] (v ∷ vs) k = never_e 𝓤 _
      runs (c ∷ cs) [] k = never_e 𝓤 _
      runs (c ∷ cs) (v ∷ vs) k =
          ex_e 𝓤 _ (λ n.
          via 𝓤 _ (both (Called i k c v.back n) _ (called k c v.back n)
          (both (i.Shows n v.after) (RunsFrom i n cs vs) (reads n v.after) (runs cs vs n)))
          (fact_mono 𝓤 _ (RunsFrom i k (c ∷ cs) (v ∷ vs)) (λ q. (n, q.0, q.1.0, q.1.1))))

      -- and what is seen of it, from whatever an opening that made an account left, is as demand 3 claims
      pub list-holds : (t : Terms) → Demand3 i t → (OpenSays : i.Kept → SProp 𝓤) → ((k : i.Kept) → ent 𝓤 (OpenSays k) (fact 𝓤 (i.Opens t k)))
          → (first : Readings) (cs : List Call) (vs : List Seen)
          → ent 𝓤 (ex 𝓤 (λ (k : i.Kept). sep 𝓤 (OpenSays k) (sep 𝓤 (ReadingsSay k first) (ListSays k cs vs))))
          (fact 𝓤 ((first ≡ shows t opening) × CallsHold t opening cs vs))
      list-holds t d OpenSays opened first cs vs =
          ex_e 𝓤 _ (λ k.
          via 𝓤 _ (both (i.Opens t k) _ (opened k) (both (i.Shows k first) (RunsFrom i k cs vs) (reads k first) (runs cs vs k)))
          (fact_mono 𝓤 _ ((first ≡ shows t opening) × CallsHold t opening cs vs) (λ q. d.every first cs vs (k, q.0, q.1.0, q.1.1))))

  module _ (𝓛 : Logic 𝓤) (at_mem : Memory → SProp 𝓤) (run : Routine → Fun 𝓤) where
    -- ---- the Rattle calls; what each promises is the step that the relation takes

    open-promises : Promises open-call.ended (open-call.clauses 𝓛 at_mem run) (λ x. IsOpened x.args.0 x.answer)
    open-promises = record { asks = λ κs args g. id⊢ 𝓤 _; says = λ x. id⊢ 𝓤 _ }

    post-promises : Promises post.ended (post.clauses 𝓛 at_mem run) (λ x. Posts x.args.0.now x.args.1.0 x.left.0 (answer_record x.answer))
    post-promises = record { asks = λ κs args g. id⊢ 𝓤 _; says = λ x. id⊢ 𝓤 _ }

    row-promises : Promises row-call.ended (row-call.clauses 𝓛 at_mem run)
        (λ x. PostsRow x.args.0.now x.args.1.0.now x.args.1.1.0.now x.left.0 x.left.1.1.0 (code_of x.answer))
    row-promises = record { asks = λ κs args g. id⊢ 𝓤 _; says = λ x. id⊢ 𝓤 _ }

    balance-promises : Promises balance.ended (balance.clauses 𝓛 at_mem run) (λ x. IsBalance x.args.0 x.answer)
    balance-promises = record { asks = λ κs args g. id⊢ 𝓤 _; says = λ x. id⊢ 𝓤 _ }

    plan-promises : Promises plan.ended (plan.clauses 𝓛 at_mem run) (λ x. IsPlan x.args.0 x.answer)
    plan-promises = record { asks = λ κs args g. id⊢ 𝓤 _; says = λ x. id⊢ 𝓤 _ }

    service-promises : Promises service.ended (service.clauses 𝓛 at_mem run) (λ x. IsService x.args.0 x.answer)
    service-promises = record { asks = λ κs args g. id⊢ 𝓤 _; says = λ x. id⊢ 𝓤 _ }

    settled-promises : Promises settled.ended (settled.clauses 𝓛 at_mem run) (λ x. IsSettled x.args.0 x.answer)
    settled-promises = record { asks = λ κs args g. id⊢ 𝓤 _; says = λ x. id⊢ 𝓤 _ }

    estimates-promises : Promises estimates.ended (estimates.clauses 𝓛 at_mem run) (λ x. IsEstimates x.args.0 x.answer)
    estimates-promises = record { asks = λ κs args g. id⊢ 𝓤 _; says = λ x. id⊢ 𝓤 _ }

    -- ---- a list of them

    abbrev OpenSays : Terms → Result Account Refusal → SProp 𝓤
    OpenSays t o = Says open-call.ended (open-call.clauses 𝓛 at_mem run) (λ x. (x.args.0 ≡ t) × (x.answer ≡ o))

    -- the five readings v
    abbrev ReadingsSay : Totals → Readings → SProp 𝓤
    ReadingsSay s v =
        sep 𝓤 (Says balance.ended (balance.clauses 𝓛 at_mem run) (λ x. (x.args.0 ≡ s) × (x.answer ≡ v.balance)))
        (sep 𝓤 (Says plan.ended (plan.clauses 𝓛 at_mem run) (λ x. (x.args.0 ≡ s) × (x.answer ≡ v.plan)))
        (sep 𝓤 (Says service.ended (service.clauses 𝓛 at_mem run) (λ x. (x.args.0 ≡ s) × (x.answer ≡ v.on)))
        (sep 𝓤 (Says settled.ended (settled.clauses 𝓛 at_mem run) (λ x. (x.args.0 ≡ s) × (x.answer ≡ v.settled)))
        (Says estimates.ended (estimates.clauses 𝓛 at_mem run) (λ x. (x.args.0 ≡ s) × (x.answer ≡ v.standing))))))

    reads : (s : Totals) (v : Readings) → ent 𝓤 (ReadingsSay s v) (fact 𝓤 (ShowsReadings s v))
    reads s v =
        via 𝓤 _ (both (IsBalance s v.balance) _ (promised _ _ balance-promises _ _ (λ x h p. rw (← h.0, ← h.1) p))
        (both (IsPlan s v.plan) _ (promised _ _ plan-promises _ _ (λ x h p. rw (← h.0, ← h.1) p))
        (both (IsService s v.on) _ (promised _ _ service-promises _ _ (λ x h p. rw (← h.0, ← h.1) p))
        (both (IsSettled s v.settled) (IsEstimates s v.standing) (promised _ _ settled-promises _ _ (λ x h p. rw (← h.0, ← h.1) p))
        (promised _ _ estimates-promises _ _ (λ x h p. rw (← h.0, ← h.1) p))))))
        (fact_mono 𝓤 _ (ShowsReadings s v) (λ q. record { balance = q.0; plan = q.1.0; on = q.1.1.0; settled = q.1.1.1.0; standing = q.1.1.1.1 }))

    -- the call that gets account a leaves account b and hands back r
    abbrev CallSays : Account → Call → Back → Account → SProp 𝓤
    CallSays a (single e) r b =
        Says post.ended (post.clauses 𝓛 at_mem run)
        (λ x. (x.args.0.now ≡ a) × (x.args.1.0 ≡ e) × (x.left.0 ≡ b) × (r ≡ answered (answer_record x.answer)))
    CallSays a (row es buffer) r b =
        Says row-call.ended (row-call.clauses 𝓛 at_mem run)
        (λ x. (x.args.0.now ≡ a) × (x.args.1.0.now ≡ es) × (x.args.1.1.0.now ≡ buffer) × (x.left.0 ≡ b)
        × (r ≡ written (code_of x.answer) x.left.1.1.0))

    called : (a : Account) (c : Call) (r : Back) (b : Account) → ent 𝓤 (CallSays a c r b) (fact 𝓤 (Called rattle a c r b))
    called a (single e) r b = promised _ _ post-promises _ _ (λ x h p. (answer_record x.answer, rw (← h.0, ← h.1, ← h.2) p, h.3))
    called a (row es buffer) r b = promised _ _ row-promises _ _ (λ x h p. (code_of x.answer, x.left.1.1.0, rw (← h.0, ← h.1, ← h.2, ← h.3) p, h.4))

    -- each call gets the account as the call before left it
    abbrev pub CallsSay : Account → List Call → List Seen → SProp 𝓤
    CallsSay = ListSays rattle CallSays (λ a v. ReadingsSay a.totals v)

    -- Demand 3: whatever the contracts leave to be seen of a list of calls, from the account a that `account::open` made, is as demand 3 claims.
    pub contracts-hold : (t : Terms) (first : Readings) (cs : List Call) (vs : List Seen)
        → ent 𝓤 (ex 𝓤 (λ (a : Account). sep 𝓤 (OpenSays t (Ok a)) (sep 𝓤 (ReadingsSay a.totals first) (CallsSay a cs vs))))
        (fact 𝓤 ((first ≡ shows t opening) × CallsHold t opening cs vs))
    contracts-hold t =
        list-holds rattle CallSays (λ a v. ReadingsSay a.totals v) called (λ a v. reads a.totals v) t (demand-3 t) (λ a. OpenSays t (Ok a))
        (λ a. promised _ _ open-promises _ _ (λ x h p. subst (λ (o : Result Account Refusal). IsOpened t o) h.1 (rw (← h.0) p)))
