-- What is read off an account is the ledger's.
-- Assumes nothing.
use Prim.Native.Nat.{ℕ, suc, ◌+◌, ◌*◌, ◌≤◌, ◌<◌}
use native.Mathlib.Omega.{arith}
use mathlib.Core.Path.{◌≡◌, refl, sym, ◌∙◌}
use mathlib.Core.Bool.{Bool, true, false, not, ◌&&◌, or-true, true≢false}
use mathlib.Core.List.{List}
use mathlib.Core.Option.{Option, some}
use lib.ListN.{get_or}
use lib.Dec.{ltb, leb}
use borrow.Author.Tests.{le-leb, leb-true, leb-false, ne_eqb}
use Rattle.calendar.specs.Calendar.{is_day, opens}
use Rattle.calendar.specs.Days.{any_day}
use Rattle.calendar.proofs.Laws.{month-limit}
use Rattle.terms.specs.Terms.{valid_terms}
use Rattle.terms.specs.declared.Terms.{Terms}
use Rattle.ledger.specs.declared.Event.{Event}
use Rattle.ledger.specs.declared.Summary.{Summary}
use Rattle.ledger.specs.Event.{is_pay}
use Rattle.ledger.specs.Entries.{Entry, Entries, amount_of, or_zero, payment_count, payment, paid_on, reversed, UsageDay, blank, estimated, metered, usage_day, estimate_cost_of}
use Rattle.ledger.specs.Rules.{Ledger}
use Rattle.ledger.specs.Ledger.{ledger_of}
use Rattle.ledger.specs.Months.{month_of, in_month, has_days, payments_in, usage_in, metered_wh_of, metered_cost_of, estimated_wh_of, charges_in, no_summary, ledger_summary}
use Rattle.std.proofs.lemmas.Bool.{and_parts}
use Rattle.ledger.proofs.Cases.{decide}
use Rattle.moves.specs.declared.Payment.{Payment}
use Rattle.moves.specs.Moves.{is_account, early_code, cells_before, move_of}
use Rattle.account.specs.Step.{step_of}
use Rattle.account.specs.declared.Account.{Account}
use Rattle.refinement.specs.Lists.{Made}
use Rattle.refinement.specs.Agree.{Agree, recorded_usage, recorded_payment}
use Rattle.refinement.proofs.Agreed.{is-account}
use Rattle.refinement.proofs.Lists.{made-represents}
use Rattle.months.specs.Summary.{in_month_of, payment_kept, payment_reversed, payments_by, one, payment_amount, state_of, usage_by, are_in_range, summary_by, summary_of, WithinLimits, IsSummary}
use Rattle.calendar.proofs.Sums.{any_none, any_same}
use Rattle.months.proofs.Sums.{total-same}
use Rattle.months.proofs.Numbers.{by_number, Dated, dated-after}

pub valid-opens : (t : Terms) → valid_terms t ≡ true → opens t.opened ≡ true
unfolding valid_terms
valid-opens t v = (and_parts (opens t.opened) _ v).0

state-is : (u : UsageDay) → state_of (recorded_usage u) ≡ u
state-is blank = refl
state-is (estimated wh cost) = refl
state-is (metered wh cost) = refl

module _ (t : Terms) (m : ℕ) (o : opens t.opened ≡ true) where
  -- the same days
  pub in-month : (k : ℕ) → k ≤ 399 → in_month_of t.opened m k ≡ in_month t m k
  unfolding in_month_of
  in-month k h = simp (o, le-leb k 399 h)

  has-days : any_day (in_month_of t.opened m) 400 ≡ has_days t m
  unfolding has_days
  has-days = any_same _ _ 400 (λ k h. in-month k (omega arith))

  -- a month that holds one of them is at most the fourteenth
  late : (k : ℕ) → k < 400 → 14 < m → in_month t m k ≡ false
  late k h g =
      let d : is_day t.opened k ≡ true = simp (o, le-leb k 399 (omega arith)) in
      ne_eqb (month_of t k) m (λ e. omega (arith, month-limit t.opened k d))

  month-small : has_days t m ≡ true → m ≤ 14
  unfolding has_days
  month-small y = decide (leb m 14) (leb-true m 14) (λ f. absurd (true≢false (sym y ∙ any_none _ 400 (λ k h. late k h (leb-false m 14 f)))))

  module _ (a : Account) (l : Ledger) (g : Agree t a l) (d : Dated l.list) where
    paid : (p : Payment → Bool) (q : ℕ → Bool) (f : Payment → ℕ) (w : Option Entry → ℕ)
        → ((n : ℕ) → p (recorded_payment l.list n) ≡ q n) → ((n : ℕ) → f (recorded_payment l.list n) ≡ w (payment l.list n))
        → payments_by (in_month_of t.opened m) p f a.payments a.totals.count
        ≡ payments_in t l.list m (λ (x : Entry) (before : Entries). is_pay x.event && q (payment_count before)) (λ (x : Entry). w (some x))
    unfolding payments_by payments_in
    paid p q f w i h =
        rw g.sums.count
        (total-same _ _ (payment_count l.list) (λ n b. rw (g.kept.payments n b, in-month (paid_on l.list n) (d n), i n, h n))
        ∙ sym (by_number (λ (x : Option Entry). in_month t m (or_zero (λ (y : Entry). y.event.day) x)) q w l.list))

    used : (w : UsageDay → ℕ) → usage_by (in_month_of t.opened m) w a.days 400 ≡ usage_in t l.list m w
    unfolding usage_by usage_in
    used w = total-same _ _ 400 (λ u b. rw (in-month u (omega arith), g.kept.days u b, state-is (usage_day t l.list u)))

    charge : (k : ℕ) → m ≤ 14 → k < 5 → get_or a.charges (5 * m + k) 0 ≡ charges_in t l.list m (suc k)
    charge k h b = g.kept.charges m k (omega arith) b

    first : m ≤ 14 → get_or a.charges (5 * m) 0 ≡ charges_in t l.list m 1
    first h = let e : 5 * m ≡ 5 * m + 0 = omega arith in rw e (charge 0 h (omega arith))

    -- no sum is past the guard
    small : (k : ℕ) → leb (charges_in t l.list m k) 1099511627776 ≡ true
    small k = le-leb (charges_in t l.list m k) 1099511627776 (omega (arith, g.kept.charged m k, g.bounds.full, g.sums.events))

    -- by the payment's number
    abbrev live : ℕ → Bool
    live n = not (reversed l.list n)

    abbrev back : ℕ → Bool
    back n = reversed l.list n

    pub summary-is : summary_of a m ≡ ledger_summary t l.list m
    unfolding summary_by ledger_summary are_in_range
    summary-is = rw (is-account t a l g, g.terms, has-days) (decide (has_days t m)
        (λ y. let h : m ≤ 14 = month-small y in
        rw (y, first h, charge 1 h (omega arith), charge 2 h (omega arith), charge 3 h (omega arith), charge 4 h (omega arith), small 1, small 2, small 3, small 4, small 5, paid payment_kept live one (λ (x : Option Entry). 1) (λ n. refl) (λ n. refl), paid payment_kept live payment_amount (or_zero amount_of) (λ n. refl) (λ n. refl), paid payment_reversed back one (λ (x : Option Entry). 1) (λ n. refl) (λ n. refl), paid payment_reversed back payment_amount (or_zero amount_of) (λ n. refl) (λ n. refl), used metered_wh_of, used metered_cost_of, used estimated_wh_of, used estimate_cost_of))
        (λ f. rw f))

-- The summary of an account that this software made is the ledger's of the same events.
pub summary-made : (a : Account) (m : ℕ) (t : Terms) (es : List Event) → Made t es a → summary_of a m ≡ ledger_summary t (ledger_of t es).list m
summary-made a m t es h = summary-is t m (valid-opens t h.valid) a (ledger_of t es) (made-represents t es a h).agree (dated-after t es)

-- An account answers 2 to an event of day 400, so where every event gets 1 there is none.
past : Event
past = record { sort = 0; day = 400; amount = 0; number = 0; kind = 0; usage = 0; wh = 0; from = 0; to = 0 }

past-refused : (a : Account) → is_account a.terms a.totals ≡ true → (step_of a past).code ≡ 2
unfolding step_of move_of cells_before early_code past
past-refused a y = simp (y, or-true (ltb 400 a.totals.last))

no-account : (a : Account) (m : ℕ) → ((e : Event) → (step_of a e).code ≡ 1) → summary_of a m ≡ no_summary 1
no-account a m h = decide (is_account a.terms a.totals)
    (λ y. absurd (omega (arith, past-refused a y, h past)))
    (λ f. simp f)

pub promised : (a : Account) (m : ℕ) (r : Summary) → r ≡ summary_of a m → WithinLimits r → IsSummary a m r
promised a m r e w = record { account = e; ledgers = λ t es h. e ∙ summary-made a m t es h; none = λ h. e ∙ no-account a m h; limits = w }

pub promised-none : (a : Account) (m code : ℕ) → no_summary code ≡ summary_of a m → IsSummary a m (no_summary code)
unfolding are_in_range
promised-none a m code e = promised a m (no_summary code) e (record { wh = omega arith; cost = omega arith; charges = refl })
