-- The move of an event: refused by the checks of every event, or by its sort; and the places that it names. Assumes nothing.
use mathlib.Core.Path.{◌≡◌, refl}
use mathlib.Core.Bool.{Bool, true, false, cond, not}
use Prim.Native.Nat.{ℕ, ◌+◌, ◌<◌}
use native.Mathlib.Omega.{arith}
use Rattle.std.proofs.lemmas.Bool.{cond_both, cond-true}
use lib.ListN.{get_or}
use lib.Dec.{ltb, leb, eqb}
use borrow.Author.Tests.{eq-eqb, eqb-true, leb-false}
use Rattle.marks.specs.Marks.{latest_warning, is_missing}
use Rattle.tariff.specs.Prices.{price_place}
use Rattle.terms.specs.Terms.{max_price}
use Rattle.terms.specs.declared.Terms.{Terms}
use Rattle.ledger.specs.Event.{in_limits}
use Rattle.ledger.specs.declared.Event.{Event}
use Rattle.moves.specs.Moves.{Arrays, Moved, max_total, usage_price, early_code, refusing, by_sort, move_of, by_usage, charge_place, plan_condition_met, barred_on, pay_of, reverse_of, credit_of, charge_of, estimate_of, estimated_of, read_of, metered_of, warn_of, mark_of, deferring_of, plan_of, served_of, disconnect_of, connect_of, price_of}
use Rattle.moves.specs.declared.Usage.{Usage}
use Rattle.moves.specs.declared.Usage.TheVariants.{Blank, Estimated, Metered}
use Rattle.moves.proofs.Early.{Early, early, month-on, charge-limits}

-- What holds of a test's move, either way: std's `cond_both`, with the moves left out.
pub branch : (P : Moved → Type 0) (b : Bool) {x y : Moved} → (b ≡ true → P x) → (b ≡ false → P y) → P (cond b x y)
branch P b f g = cond_both b _ _ P f g

module _ (t : Terms) (m : Moved) (r : Arrays) (e : Event) where
  pub goes_on : early_code t m.totals e ≡ 0 → move_of t m r e ≡ by_sort t m r e e.sort
  unfolding move_of
  goes_on h = cond-true _ _ _ (eq-eqb (early_code t m.totals e) 0 h)

  -- what holds of each sort's move, and of the refusal of another sort
  pub record OfEach (P : Moved → Type 0) : Type 0 where
    pub pays : e.sort ≡ 1 → P (pay_of t m e)
    pub reverses : e.sort ≡ 2 → P (reverse_of t m e)
    pub credits : e.sort ≡ 3 → P (credit_of t m e)
    pub charged : e.sort ≡ 4 → P (charge_of t m r.charges e)
    pub estimates : e.sort ≡ 5 → P (estimate_of t m r.prices e)
    pub reads : e.sort ≡ 6 → P (read_of t m r.prices e)
    pub warns : e.sort ≡ 7 → P (warn_of t m e)
    pub marked : e.sort ≡ 8 → P (mark_of t m e)
    pub plans : e.sort ≡ 9 → P (plan_of t m r.marks e)
    pub disconnects : e.sort ≡ 10 → P (disconnect_of t m r.marks r.warned e)
    pub connects : e.sort ≡ 11 → P (connect_of t m e)
    pub priced : e.sort ≡ 12 → P (price_of t m r.prices e)
    pub other : in_limits e ≡ false → P (refusing m 3)

  module _ (P : Moved → Type 0) where
    or : (k : ℕ) {x y : Moved} → (e.sort ≡ k → P x) → (eqb e.sort k ≡ false → P y) → P (cond (eqb e.sort k) x y)
    or k f g = branch P (eqb e.sort k) (λ y. f (eqb-true e.sort k y)) g

    -- holds of the event's
    pub by-sort : OfEach P → P (by_sort t m r e e.sort)
    unfolding by_sort in_limits
    by-sort h =
        or 1 h.pays (λ f₁. or 2 h.reverses (λ f₂. or 3 h.credits (λ f₃. or 4 h.charged (λ f₄. or 5 h.estimates (λ f₅. or 6 h.reads
        (λ f₆. or 7 h.warns (λ f₇. or 8 h.marked (λ f₈. or 9 h.plans (λ f₉. or 10 h.disconnects (λ f. or 11 h.connects
        (λ f'. or 12 h.priced (λ q. h.other (simp (f₁, f₂, f₃, f₄, f₅, f₆, f₇, f₈, f₉, f, f', q))))))))))))))

-- What holds of every sort's move of the cells m: the places that it names are there, and a refusal leaves every cell as it was.
pub record Sound (m x : Moved) : Type 0 where
  pub number : x.number < 128
  pub place : x.place < 75
  pub refused : (x.code ≡ 0 → ⊥) → x ≡ refusing m x.code

-- the places of the cells before
abbrev pub Placed : Moved → Type 0
Placed m = (m.number < 128) × (m.place < 75)

module _ (t : Terms) (m : Moved) (r : Arrays) (e : Event) (h : Placed m) where
  test : (b : Bool) {x y : Moved} → Sound m x → Sound m y → Sound m (cond b x y)
  test b f g = branch (Sound m) b (λ _. f) (λ _. g)

  by-usage : (u : Usage) {x y : Moved} {f : ℕ → Moved} → Sound m x → ((old : ℕ) → Sound m (f old)) → Sound m y → Sound m (by_usage u x f y)
  by-usage Blank b s r = b
  by-usage (Estimated wh cost) b s r = s cost
  by-usage (Metered wh cost) b s r = r

  no : (k : ℕ) → Sound m (refusing m k)
  no k = record { number = h.0; place = h.1; refused = λ _. refl }

  taken : {x : Moved} → x.code ≡ 0 → x.number < 128 → x.place < 75 → Sound m x
  taken c n p = record { number = n; place = p; refused = λ z. absurd (z c) }

  -- accepted, at the same places
  yes : {x : Moved} → x.code ≡ 0 → x.number ≡ m.number → x.place ≡ m.place → Sound m x
  yes c n p = taken c (rw n h.0) (rw p h.1)

  charge-place : Early t m.totals e → e.sort ≡ 4 → charge_place t e < 75
  charge-place k s = let f = charge-limits e s k.passed.limits in omega (arith, month-on t m.totals e k, f.kind.least, f.kind.most)

  by-sorts : Early t m.totals e → Sound m (by_sort t m r e e.sort)
  unfolding pay_of reverse_of credit_of charge_of estimate_of estimated_of read_of metered_of warn_of mark_of plan_of deferring_of served_of disconnect_of connect_of price_of
  by-sorts k = by-sort t m r e (Sound m) (record {
    pays = λ _. branch (Sound m) (leb 128 m.totals.count) (λ _. no 5) (λ f. taken refl (leb-false 128 m.totals.count f) h.1);
    reverses = λ _. test (leb m.totals.count e.number) (no 6) (test m.payment.reversed (no 6) (yes refl refl refl));
    credits = λ _. yes refl refl refl;
    charged = λ s. test (ltb max_total (get_or r.charges (charge_place t e) 0)) (no 1) (taken refl h.0 (charge-place k s));
    estimates = λ _. test (leb e.day e.usage) (no 7) (test (ltb max_price (usage_price t r.prices e)) (no 1) (by-usage m.day.usage (yes refl refl refl) (λ _. no 8) (no 8)));
    reads = λ _. test (leb e.day e.usage) (no 7) (test (ltb max_price (usage_price t r.prices e)) (no 1) (by-usage m.day.usage (yes refl refl refl) (λ _. yes refl refl refl) (no 8)));
    warns = λ _. yes refl refl refl;
    marked = λ _. yes refl refl refl;
    plans = λ _. test (plan_condition_met t m.totals r.marks e) (test (ltb 0 m.totals.plan) (no 10) (yes refl refl refl)) (no 9);
    disconnects = λ _. test (not m.totals.on) (no 11) (test (leb (m.totals.debit + t.cutoff) m.totals.credit) (no 12)
        (test (is_missing (latest_warning r.warned e.day)) (no 13) (test (barred_on t r.marks e) (no 14) (yes refl refl refl))));
    connects = λ _. test m.totals.on (no 11) (test (ltb m.totals.credit (m.totals.debit + t.connect)) (no 12) (yes refl refl refl));
    priced = λ _. test (leb 17 (price_place r.prices e.day)) (no 17) (yes refl refl refl);
    other = λ _. no 3;
  })

  pub sound : Sound m (move_of t m r e)
  unfolding move_of
  sound = branch (Sound m) (eqb (early_code t m.totals e) 0) (λ y. by-sorts (early t m.totals e (eqb-true _ 0 y))) (λ _. no _)
