-- Demand 3 on the functions that C links: the contracts of `prepay_open`, `prepay_post`, `prepay_row` and `prepay_readings`, as the toolchain
-- compiled them, are the steps of demand 3's relation over numbers. A weaker `ensures` of one of them is refused here, and so is a `requires`.
-- Assumes nothing.
use mathlib.Core.Path.{◌≡◌}
use mathlib.Core.List.{List}
use seplogic.Ra.Ura.{Ura}
use base.Logic.{SProp, ent, sep, ex, id⊢}
use prog.Memory.{Memory}
use prog.Routine.{Routine}
use types.Logic.{Logic}
use contract.Monad.{Fun, fact}
use Rattle.terms.specs.declared.Terms.{Terms}
use Rattle.ledger.specs.Ledger.{opening}
use Rattle.ledger.specs.Calls.{Call, single, row, Back, answered, written}
use Rattle.readings.specs.Readings.{Readings, ShowsReadings}
use Rattle.numbers.specs.Numbers.{account_in, OpensIn, PostsIn, PostsRowIn}
use Rattle.numbers.specs.declared.Numbers.{Numbers}
use Rattle.demand.specs.Calls.{Seen, in_c, Called}
use Rattle.demand.specs.Demand3.{shows, CallsHold}
use Rattle.demand.proofs.Lists.{demand-3-in-c}
use Rattle.demand.proofs.Contracts.{Promises, Says, promised, ListSays, list-holds}
use Rattle.head.specs.Interface.{answer_in, readings_in, ReadsIn}
use Rattle.head.specs.contracts.prepay_open as open-call
use Rattle.head.specs.contracts.prepay_post as post
use Rattle.head.specs.contracts.prepay_row as row-call
use Rattle.head.specs.contracts.prepay_readings as readings

module _ {M : Type 1} (𝓤 : Ura M) (𝓛 : Logic 𝓤) (at_mem : Memory → SProp 𝓤) (run : Routine → Fun 𝓤) where
  -- ---- what each promises is the step that the relation takes

  open-promises : Promises 𝓤 open-call.ended (open-call.clauses 𝓛 at_mem run) (λ x. OpensIn x.args.1.0.now x.args.0.now x.left.0 x.answer)
  open-promises = record { asks = λ κs args g. id⊢ 𝓤 _; says = λ x. id⊢ 𝓤 _ }

  post-promises : Promises 𝓤 post.ended (post.clauses 𝓛 at_mem run) (λ x. PostsIn x.args.0.now x.args.1.0.now x.left.0 (answer_in x.answer))
  post-promises = record { asks = λ κs args g. id⊢ 𝓤 _; says = λ x. id⊢ 𝓤 _ }

  row-promises : Promises 𝓤 row-call.ended (row-call.clauses 𝓛 at_mem run)
      (λ x. PostsRowIn x.args.0.now x.args.1.0.now x.args.1.1.0.now x.left.0 x.left.1.1.0 x.answer)
  row-promises = record { asks = λ κs args g. id⊢ 𝓤 _; says = λ x. id⊢ 𝓤 _ }

  readings-promises : Promises 𝓤 readings.ended (readings.clauses 𝓛 at_mem run) (λ x. ReadsIn x.args.0.now x.answer)
  readings-promises = record { asks = λ κs args g. id⊢ 𝓤 _; says = λ x. id⊢ 𝓤 _ }

  -- ---- a list of calls

  -- the opening, of whatever numbers, that answers 0
  abbrev OpenSays : Terms → Numbers → SProp 𝓤
  OpenSays t n = Says 𝓤 open-call.ended (open-call.clauses 𝓛 at_mem run) (λ x. (x.args.1.0.now ≡ t) × (x.left.0 ≡ n) × (x.answer ≡ 0))

  abbrev ReadingsSay : Numbers → Readings → SProp 𝓤
  ReadingsSay n v = Says 𝓤 readings.ended (readings.clauses 𝓛 at_mem run) (λ x. (x.args.0.now ≡ n) × (readings_in x.answer ≡ v))

  reads : (n : Numbers) (v : Readings) → ent 𝓤 (ReadingsSay n v) (fact 𝓤 (ShowsReadings (account_in n).totals v))
  reads n v = promised 𝓤 _ _ readings-promises _ _ (λ x h p. rw (← h.0, ← h.1) p.shown)

  -- the call that gets the numbers n leaves the numbers m and hands back r
  abbrev CallSays : Numbers → Call → Back → Numbers → SProp 𝓤
  CallSays n (single e) r m =
      Says 𝓤 post.ended (post.clauses 𝓛 at_mem run)
      (λ x. (x.args.0.now ≡ n) × (x.args.1.0.now ≡ e) × (x.left.0 ≡ m) × (r ≡ answered (answer_in x.answer)))
  CallSays n (row es buffer) r m =
      Says 𝓤 row-call.ended (row-call.clauses 𝓛 at_mem run)
      (λ x. (x.args.0.now ≡ n) × (x.args.1.0.now ≡ es) × (x.args.1.1.0.now ≡ buffer) × (x.left.0 ≡ m) × (r ≡ written x.answer x.left.1.1.0))

  called : (n : Numbers) (c : Call) (r : Back) (m : Numbers) → ent 𝓤 (CallSays n c r m) (fact 𝓤 (Called in_c n c r m))
  called n (single e) r m = promised 𝓤 _ _ post-promises _ _ (λ x h p. (answer_in x.answer, rw (← h.0, ← h.1, ← h.2) p, h.3))
  called n (row es buffer) r m = promised 𝓤 _ _ row-promises _ _ (λ x h p. (x.answer, x.left.1.1.0, rw (← h.0, ← h.1, ← h.2, ← h.3) p, h.4))

  -- each call gets the numbers as the call before left them
  abbrev CallsSay : Numbers → List Call → List Seen → SProp 𝓤
  CallsSay = ListSays 𝓤 in_c CallSays ReadingsSay

  -- Demand 3: whatever the contracts leave to be seen of a list of calls, from the numbers n that `prepay_open` left and answered 0, is as
  -- demand 3 claims.
  pub contracts-hold : (t : Terms) (first : Readings) (cs : List Call) (vs : List Seen)
      → ent 𝓤 (ex 𝓤 (λ (n : Numbers). sep 𝓤 (OpenSays t n) (sep 𝓤 (ReadingsSay n first) (CallsSay n cs vs))))
      (fact 𝓤 ((first ≡ shows t opening) × CallsHold t opening cs vs))
  contracts-hold t =
      list-holds 𝓤 in_c CallSays ReadingsSay called reads t (demand-3-in-c t) (OpenSays t)
      (λ n. promised 𝓤 _ _ open-promises _ _ (λ x h p. (x.args.0.now, rw (← h.0, ← h.1, ← h.2) p)))
