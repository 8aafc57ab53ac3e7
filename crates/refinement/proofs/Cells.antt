-- After an accepted event, cell by cell: what a move of another sort leaves as it was, and what the event's own sort writes.
-- Assumes nothing.
use Prim.Native.Nat.{ℕ, suc, ◌+◌, ◌*◌, ◌≤◌, ◌<◌}
use native.Mathlib.Omega.{arith}
use mathlib.Core.Path.{◌≡◌, refl, ap, ◌∙◌, sym, subst}
use mathlib.Core.Bool.{Bool, true, false, cond, ◌||◌}
use lib.ListN.{get_or, length-set}
use lib.Seq.{set-get_or}
use lib.Dec.{eqb}
use lib.IntN.{pos, ◌-ℤ◌}
use borrow.Author.Tests.{eqb-true, leb-false}
use Rattle.marks.proofs.Laws.{marked-length}
use Rattle.tariff.proofs.Laws.{with_price-length}
use Rattle.terms.specs.declared.Terms.{Terms}
use Rattle.ledger.specs.declared.Event.{Event}
use Rattle.ledger.specs.Entries.{Entries, last_day, payment_count, usage_day}
use Rattle.ledger.specs.Rules.{Ledger, refusals}
use Rattle.ledger.specs.Sums.{standing_cost}
use Rattle.ledger.specs.Months.{charges_in}
use Rattle.ledger.specs.Ledger.{Effect, refusal, effect_of, joined}
use Rattle.ledger.specs.Invariant.{Invariant}
use Rattle.ledger.proofs.Cases.{decide}
use Rattle.moves.specs.Moves.{Moved, cells_before, move, totals}
use Rattle.moves.specs.declared.Totals.{Totals}
use Rattle.account.specs.Record.{blank_day, no_payment}
use Rattle.account.specs.Step.{number_at, usage_at, day_at, cells_of, with_cells}
use Rattle.account.specs.declared.Account.{Account}
use Rattle.account.proofs.Written.{marks-left}
use Rattle.refinement.specs.Agree.{PricesAgree, Agree, recorded_usage, recorded_payment, recorded_marks, warned_on}
use Rattle.refinement.proofs.Fields.{payments-same, payments-one}
use Rattle.refinement.proofs.Keeps.{amounts-keep, charged-keep, held-keep, payments-stay, days-stay, marks_stay, warned-stay, charges-stay, prices-stay}
use Rattle.refinement.proofs.Refusals.{Passes, takes}
use Rattle.refinement.proofs.Agreed.{Refines, facts, taken, past, standing-is}

abbrev when : Bool → Type 0 → Type 0 → Type 0
when true A B = A
when false A B = B

-- which sorts write the payments, and which the usage days
abbrev paid : ℕ → Bool
paid k = eqb k 1 || eqb k 2

abbrev used : ℕ → Bool
used k = eqb k 5 || eqb k 6

-- A move m of sort k, with whatever its sort leaves alone as it was before.
abbrev pub left : ℕ → Account → Event → Moved → Moved
left k a e m =
    let c = cells_of a e in
    move m.code m.value
    (totals m.totals.credit m.totals.debit m.totals.plan (cond (used k) m.totals.standing a.totals.standing)
    (cond (eqb k 1) (a.totals.count + 1) a.totals.count) (a.totals.events + 1) e.day m.totals.on)
    (cond (paid k) m.number c.number) (cond (paid k) m.payment c.payment)
    (cond (used k) m.day c.day)
    (cond (eqb k 4) m.place c.place) (cond (eqb k 4) m.sum c.sum)
    (cond (eqb k 7) m.warned c.warned)
    (cond (eqb k 12) m.price_place c.price_place)
    (cond (eqb k 8) m.kind c.kind) (cond (eqb k 8) m.from c.from) (cond (eqb k 8) m.to c.to)

-- What a sort's own cell shows after the event, where L is then l.
abbrev pub Own : ℕ → Terms → Account → Entries → Type 0
Own k t b l =
    when (paid k) ((n : ℕ) → n < payment_count l → get_or b.payments n no_payment ≡ recorded_payment l n)
    (when (used k) (((u : ℕ) → u < 400 → (get_or b.days u blank_day).usage ≡ recorded_usage (usage_day t l u)) × (b.totals.standing ≡ standing_cost t l) × (b.totals.standing ≤ b.totals.events * 10000000))
    (when (eqb k 8) ((d : ℕ) → d < 400 → get_or b.marks d 0 ≡ recorded_marks l d)
    (when (eqb k 7) ((d : ℕ) → d < 400 → get_or b.warned d 0 ≡ cond (warned_on l d) 1 0)
    (when (eqb k 4) ((m i : ℕ) → m < 15 → i < 5 → get_or b.charges (5 * m + i) 0 ≡ charges_in t l m (suc i))
    (when (eqb k 12) (PricesAgree t b.prices l) (Unit {0}))))))

-- B, R and service after the event, as the ledger's move x has them, and the bounds
pub record Money (a : Account) (s : Totals) (x : Effect) : Type 0 where
  pub balance : x.balance ≡ pos s.credit -ℤ pos s.debit
  pub plan : s.plan ≡ x.plan
  pub on : s.on ≡ x.on
  pub credit-most : s.credit ≤ (a.totals.events + 1) * 50000000000
  pub debit-most : s.debit ≤ (a.totals.events + 1) * 10000000
  pub plan-most : s.plan ≤ (a.totals.events + 1) * 50000000000

module _ (a : Account) (l : Ledger) (e : Event) (g : Agree a.terms a l) (s : Invariant a.terms l) (h : Passes l e) (z : refusal a.terms l e ≡ 0)
    (k : ℕ) (q : e.sort ≡ k) (m : Moved) (w : m ≡ left k a e m) (x : Effect) (o : Own k a.terms (with_cells a e m) (joined l e x).list) where
  abbrev t : Terms
  t = a.terms

  abbrev b : Account
  b = with_cells a e m

  abbrev after : Entries
  after = (joined l e x).list

  sort-is : (j : ℕ) {c : Bool} → eqb k j ≡ c → eqb e.sort j ≡ c
  sort-is j f = ap (λ (i : ℕ). eqb i j) q ∙ f

  own : (j : ℕ) → eqb k j ≡ true → Own j t b after
  own j y = subst (λ (i : ℕ). Own i t b after) (eqb-true k j y) o

  payments-law : (n : ℕ) → n < payment_count after → get_or b.payments n no_payment ≡ recorded_payment after n
  unfolding cells_before
  payments-law = decide (eqb k 1) (λ y. own 1 y) (λ f. decide (eqb k 2) (λ y. own 2 y) (λ f'.
      let number = simp (f, f') at (ap (λ (y : Moved). y.number) w) in
      let payment = simp (f, f') at (ap (λ (y : Moved). y.payment) w) in
      rw (number, payment, set-get_or a.payments (number_at e) no_payment) (payments-stay t a e x.part l.list g.kept (sort-is 1 f) (sort-is 2 f'))))

  days-law : (u : ℕ) → u < 400 → (get_or b.days u blank_day).usage ≡ recorded_usage (usage_day t after u)
  unfolding cells_before
  days-law = decide (eqb k 5) (λ y. (own 5 y).0) (λ f. decide (eqb k 6) (λ y. (own 6 y).0) (λ f'.
      rw (simp (f, f') at (ap (λ (y : Moved). y.day) w), set-get_or a.days (usage_at e) blank_day) (days-stay t a e x.part l.list g.kept (past a l g e h s z) (sort-is 5 f) (sort-is 6 f'))))

  marks-law : (d : ℕ) → d < 400 → get_or b.marks d 0 ≡ recorded_marks after d
  unfolding cells_before
  marks-law = decide (eqb k 8) (λ y. own 8 y) (λ f.
      rw (simp f at (ap (λ (y : Moved). y.kind) w), simp f at (ap (λ (y : Moved). y.from) w), simp f at (ap (λ (y : Moved). y.to) w), marks-left a) (marks_stay t a e x.part l.list g.kept (sort-is 8 f)))

  warned-law : (d : ℕ) → d < 400 → get_or b.warned d 0 ≡ cond (warned_on after d) 1 0
  unfolding cells_before
  warned-law = decide (eqb k 7) (λ y. own 7 y) (λ f.
      rw (simp f at (ap (λ (y : Moved). y.warned) w), set-get_or a.warned (day_at e) 0) (warned-stay t a e x.part l.list g.kept (sort-is 7 f)))

  charges-law : (i j : ℕ) → i < 15 → j < 5 → get_or b.charges (5 * i + j) 0 ≡ charges_in t after i (suc j)
  unfolding cells_before
  charges-law = decide (eqb k 4) (λ y. own 4 y) (λ f.
      rw (simp f at (ap (λ (y : Moved). y.place) w), simp f at (ap (λ (y : Moved). y.sum) w), set-get_or a.charges 0 0) (charges-stay t a e x.part l.list g.kept (sort-is 4 f)))

  prices-law : PricesAgree t b.prices after
  unfolding cells_before
  prices-law = decide (eqb k 12) (λ y. own 12 y) (λ f.
      rw (simp f at (ap (λ (y : Moved). y.price_place) w)) (prices-stay t a e x.part l.list g.kept (sort-is 12 f) (taken a l g e h s z).order))

  -- ---- the totals that no sort but its own writes

  events-law : m.totals.events ≡ a.totals.events + 1
  events-law = ap (λ (y : Moved). y.totals.events) w

  standing-still : eqb k 5 ≡ false → eqb k 6 ≡ false → m.totals.standing ≡ a.totals.standing
  standing-still f f' = ap (λ (y : Moved). y.totals.standing) w ∙ simp (f, f')

  standing-law : m.totals.standing ≡ standing_cost t after
  standing-law = decide (eqb k 5) (λ y. (own 5 y).1) (λ f. decide (eqb k 6) (λ y. (own 6 y).1) (λ f'.
      omega (arith, standing-still f f', g.sums.standing, simp (sort-is 6 f', sort-is 5 f) at (standing-is a l g e h s z x.part))))

  standing-most : m.totals.standing ≤ m.totals.events * 10000000
  standing-most = decide (eqb k 5) (λ y. (own 5 y).2) (λ f. decide (eqb k 6) (λ y. (own 6 y).2) (λ f'.
      omega (arith, standing-still f f', g.bounds.standing, events-law)))

  count_law : m.totals.count ≡ payment_count after
  count_law = ap (λ (y : Moved). y.totals.count) w ∙ decide (eqb k 1)
      (λ y. simp y (rw g.sums.count (sym (payments-one e x.part l.list (sort-is 1 y)))))
      (λ f. simp f (g.sums.count ∙ sym (payments-same e x.part l.list (sort-is 1 f))))

  count_most : m.totals.count ≤ 128
  unfolding refusals
  count_most = rw (ap (λ (y : Moved). y.totals.count) w) (decide (eqb k 1)
      (λ y. simp y (omega (arith, g.sums.count, leb-false 128 (payment_count l.list) (simp (sort-is 1 y) at ((taken a l g e h s z).rule 5)))))
      (λ f. simp f g.bounds.count))

  -- ---- all of it

  agreed : Money a m.totals x → Agree t b (joined l e x)
  unfolding last_day
  agreed y = record {
    terms = refl;
    valid = g.valid;
    sums = record {
      events = omega (arith, events-law, g.sums.events);
      last = ap (λ (v : Moved). v.totals.last) w;
      balance = y.balance;
      plan = y.plan;
      on = y.on;
      standing = standing-law;
      count = count_law;
    };
    bounds = record {
      full = omega (arith, events-law, (facts a l g e h).passed.room);
      count = count_most;
      credit = omega (arith, events-law, y.credit-most);
      debit = omega (arith, events-law, y.debit-most);
      plan = omega (arith, events-law, y.plan-most);
      standing = standing-most;
    };
    kept = record {
      payments = payments-law;
      amounts = amounts-keep t e x.part l.list h.limits g.kept.amounts;
      days = days-law;
      held = held-keep t e x.part l.list h.limits s.prices (past a l g e h s z) g.kept.held;
      marks = marks-law;
      warned = warned-law;
      charges = charges-law;
      charged = charged-keep t e x.part l.list h.limits g.kept.charged;
      prices = prices-law;
    };
    sizes = record {
      payments = simp length-set g.sizes.payments;
      days = simp length-set g.sizes.days;
      marks = marked-length a.marks m.kind m.from m.to ∙ g.sizes.marks;
      warned = simp length-set g.sizes.warned;
      charges = simp length-set g.sizes.charges;
      prices = with_price-length a.prices m.price_place e.day e.amount ∙ g.sizes.prices;
    };
  }

  pub accepted : effect_of t l e ≡ x → m.code ≡ 0 → m.value ≡ x.value → Money a m.totals x → Refines a l e m
  accepted r c v y = record { same = rw (takes t l e x z r) (record { code = c; value = v; again = simp c (agreed y) }) }
