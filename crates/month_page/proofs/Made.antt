-- The page of an account that this software made is the ledger's; and what the call leaves. Assumes nothing.
use Prim.Native.Nat.{ℕ, zero, suc, ◌+◌, ◌*◌, ◌≤◌, ◌<◌}
use native.Mathlib.Omega.{arith}
use mathlib.Core.Path.{◌≡◌, refl, sym, ap, ◌∙◌}
use mathlib.Core.Bool.{true, true≢false}
use mathlib.Core.List.{List, ◌++◌}
use lib.ListN.{length, drop, length-append}
use lib.Dec.{leb, eqb}
use borrow.Author.Tests.{lt-ltb, le-ltb, leb-true, leb-false, ne_eqb}
use Rattle.std.specs.Prelude.{Option, Result, Ok, Err}
use Rattle.std.proofs.lemmas.Bool.{cond-false}
use Rattle.std.proofs.lemmas.Bool.Decides.{nat_tests}
use Rattle.calendar.specs.Calendar.{opens}
use Rattle.calendar.specs.Days.{any_day}
use Rattle.calendar.proofs.Laws.{month-limit}
use Rattle.calendar.proofs.Sums.{any_none}
use Rattle.terms.specs.Terms.{valid_terms, terms_code}
use Rattle.terms.specs.declared.Terms.{Terms}
use Rattle.ledger.specs.declared.Answer.{Answer}
use Rattle.ledger.specs.declared.Event.{Event}
use Rattle.ledger.specs.declared.Figures.{Figures}
use Rattle.ledger.specs.declared.Summary.{Summary}
use Rattle.ledger.specs.Entries.{payment_count, paid_on}
use Rattle.ledger.specs.Ledger.{answer, ledger_of}
use Rattle.ledger.specs.Months.{ledger_summary}
use Rattle.ledger.specs.declared.Refusal.{Refusal}
use Rattle.ledger.specs.Refusals.{refusal_code, answer_record, summary_record}
use Rattle.ledger.specs.Buffers.{refused, laid}
use Rattle.ledger.proofs.Cases.{decide, positive}
use Rattle.moves.specs.Moves.{is_account}
use Rattle.moves.proofs.Early.{in_reach}
use Rattle.account.specs.declared.Account.{Account}
use Rattle.refinement.specs.Lists.{Made}
use Rattle.refinement.specs.Agree.{Agree}
use Rattle.refinement.proofs.Lists.{made-represents}
use Rattle.months.specs.Summary.{in_month_of, payment_kept, payments_by, one, charges_of, are_in_range, summary_by, summary_of, IsSummary}
use Rattle.months.proofs.Agrees.{valid-opens, in-month, summary-made}
use Rattle.months.proofs.Numbers.{Dated, dated-after}
use Rattle.months.proofs.Span.{never}
use Rattle.printing.specs.Printing.{over}
use Rattle.printing.proofs.Placed.{from_start}
use Rattle.month_page.specs.declared.Line.{Line}
use Rattle.month_page.specs.Page.{lines_bytes, each_line, paid_lines, figure_lines, lines_by, page_lines, laid_by, ledger_page}
use Rattle.month_page.specs.Columns.{EachStands}
use Rattle.month_page.specs.Work.{EachHolds}
use Rattle.month_page.specs.Record.{paid_lines_of, lines_of, page_of, left, IsPage}
use Rattle.month_page.proofs.Lays.{length-lines, lines-stand}
use Rattle.month_page.proofs.Payments.{length-each, count-is}
use Rattle.month_page.proofs.Labels.{lines-narrow}

-- ---- in the ledger's terms

each-same : (f g : ℕ → Option Line) (n : ℕ) → ((k : ℕ) → k < n → f k ≡ g k) → each_line f n ≡ each_line g n
unfolding each_line
each-same f g zero h = refl
each-same f g (suc n) h = rw (each-same f g n (λ k b. h k (omega (arith, b))), h n (omega arith)) refl

lines-made : (a : Account) (m : ℕ) (t : Terms) (es : List Event) → Made t es a → lines_of a m ≡ page_lines t (ledger_of t es).list m
unfolding lines_of page_lines paid_lines
lines-made a m t es h =
    let l = (ledger_of t es).list in
    let g : Agree t a (ledger_of t es) = (made-represents t es a h).agree in
    let d : Dated l = dated-after t es in
    let paid : paid_lines_of a m ≡ paid_lines t l m =
    rw (g.terms, g.sums.count)
    (each-same _ _ (payment_count l) (λ n b. rw (g.kept.payments n b, in-month t m (valid-opens t h.valid) (paid_on l n) (d n)) refl)) in
    let date : a.terms.opened ≡ t.opened = ap (λ (x : Terms). x.opened) g.terms in
    λ i. lines_by (date i) m (paid i) (summary-made a m t es h i)

page-made : (a : Account) (m : ℕ) (buffer : List ℕ) (t : Terms) (es : List Event) → Made t es a → page_of a m buffer ≡ ledger_page t (ledger_of t es).list m buffer
page-made a m buffer t es h = λ i. laid_by (summary-made a m t es h i) (lines-made a m t es h i) buffer

laid-short : (bs before : List ℕ) → length before < length bs → laid bs before ≡ refused 16 before
laid-short bs before h = simp (lt-ltb (length before) (length bs) h)

laid-whole : (bs before : List ℕ) → length bs ≤ length before
    → laid bs before ≡ record { answer = record { code = 0; value = length bs }; buffer = bs ++ drop (length bs) before }
laid-whole bs before h = simp (le-ltb (length before) (length bs) h)

module _ (a : Account) (m : ℕ) where
  by_summary : {s : Summary} → summary_of a m ≡ s → (before : List ℕ) → page_of a m before ≡ laid_by s (lines_of a m) before
  by_summary e before = λ i. laid_by (e i) (lines_of a m) before

  promised : (s : Summary) → IsSummary a m s → (before after : List ℕ) (r : Answer) → left r after ≡ page_of a m before
      → (r.code ≡ 16 → length before < 9782)
      → (r.code ≡ 0 → r.value ≡ 73 * (6 + (summary_of a m).kept.count)) → (r.code ≡ 0 → EachStands (lines_of a m) after) → IsPage a m before after r
  promised s i before after r e room size columns = record {
    account = e;
    ledgers = λ t es h. e ∙ page-made a m before t es h;
    none = λ h. e ∙ by_summary (sym i.account ∙ i.none h) before;
    lines = λ t es h. lines-made a m t es h;
    room = room;
    length = size;
    columns = columns;
  }

  -- the month's figures are refused by 1 or 3 alone
  code-low : (summary_of a m).code ≤ 3
  unfolding summary_by
  code-low = decide (is_account a.terms a.totals)
      (λ y. decide (any_day (in_month_of a.terms.opened m) 400)
      (λ d. decide (are_in_range (charges_of a.charges m)) (λ r. simp (y, d, r) (omega arith)) (λ f. simp (y, d, f) (omega arith)))
      (λ f. simp (y, f) (omega arith)))
      (λ f. simp f (omega arith))

  pub refused-page : (r : Refusal) (q : Result ℕ Refusal) → q ≡ Err r → IsSummary a m (summary_record (Err r)) → (before : List ℕ)
      → IsPage a m before before (answer_record q)
  refused-page r q e i before =
      let not-0 = ne_eqb (refusal_code r) 0 (λ z. omega (arith, positive r, z)) in
      let low : refusal_code r ≤ 3 = rw (sym i.account) at code-low in
      rw e (promised (summary_record (Err r)) i before before (answer (refusal_code r) 0)
      (sym (by_summary (sym i.account) before ∙ cond-false (eqb (refusal_code r) 0) _ _ not-0))
      (λ z. absurd (omega (arith, low, z))) (λ z. absurd (omega (arith, positive r, z))) (λ z. absurd (omega (arith, positive r, z))))

  -- ---- a month that has figures

  pub record Passed : Type 0 where
    pub account : is_account a.terms a.totals ≡ true
    pub days : any_day (in_month_of a.terms.opened m) 400 ≡ true
    pub kept : (summary_of a m).kept.count ≡ payments_by (in_month_of a.terms.opened m) payment_kept one a.payments a.totals.count

  passed : (summary_of a m).code ≡ 0 → Passed
  unfolding summary_by
  passed z = decide (is_account a.terms a.totals)
      (λ y. decide (any_day (in_month_of a.terms.opened m) 400)
      (λ d. decide (are_in_range (charges_of a.charges m))
      (λ r. record { account = y; days = d; kept = simp (y, d, r) })
      (λ f. absurd (omega (arith, simp (y, d, f) at z))))
      (λ f. absurd (omega (arith, simp (y, f) at z))))
      (λ f. absurd (omega (arith, simp f at z)))

  opened : terms_code a.terms ≡ 0 → opens a.terms.opened ≡ true
  unfolding terms_code valid_terms
  opened h = grind (arith, nat_tests)

  small : any_day (in_month_of a.terms.opened m) 400 ≡ true → m ≤ 14
  small y = decide (leb m 14) (leb-true m 14)
      (λ f. absurd (true≢false (sym y ∙ any_none (in_month_of a.terms.opened m) 400
      (λ k h. never a.terms.opened m (λ j d e. omega (arith, month-limit a.terms.opened j d, e, leb-false m 14 f)) k))))

  module _ (f : Figures) (i : IsSummary a m (summary_record (Ok f))) where
    accepted : (summary_of a m).code ≡ 0
    accepted = ap (λ (s : Summary). s.code) (sym i.account)

    facts : Passed
    facts = passed accepted

    pub opens-is : opens a.terms.opened ≡ true
    opens-is = opened (in_reach a.terms a.totals facts.account).terms

    pub month-small : m ≤ 14
    month-small = small facts.days

    pub all-few : a.totals.count ≤ 128
    all-few = (in_reach a.terms a.totals facts.account).count

    pub count : f.kept.count ≡ length (paid_lines_of a m)
    count = ap (λ (s : Summary). s.kept.count) i.account ∙ facts.kept ∙ count-is a m a.totals.count

    pub few : f.kept.count ≤ 128
    few = omega (arith, all-few, count, length-each a m a.totals.count)

    pub lines-are : lines_by a.terms.opened m (paid_lines_of a m) (summary_record (Ok f)) ≡ lines_of a m
    unfolding lines_of
    lines-are = λ j. lines_by a.terms.opened m (paid_lines_of a m) (i.account j)

    bytes : length (lines_bytes (lines_of a m)) ≡ 73 * (6 + f.kept.count)
    unfolding lines_of
    bytes =
        omega (
          arith,
          count,
          length-append (paid_lines_of a m) (figure_lines (summary_of a m)),
          length-lines (lines_of a m) (lines-narrow a m (summary_of a m) opens-is month-small (rw i.account at i.limits)),
        )

    pub short-page : (before : List ℕ) → length before < 73 * (6 + f.kept.count) → IsPage a m before before (answer 16 0)
    short-page before h =
        promised (summary_record (Ok f)) i before before (answer 16 0)
        (sym (by_summary (sym i.account) before ∙ laid-short (lines_bytes (lines_of a m)) before (omega (arith, h, bytes))))
        (λ z. omega (arith, h, few)) (λ z. absurd (omega (arith, z))) (λ z. absurd (omega (arith, z)))

    pub whole-page : (before after : List ℕ) → 73 * (6 + f.kept.count) ≤ length before → after ≡ over before 0 (lines_bytes (lines_of a m)) → EachHolds (lines_of a m)
        → IsPage a m before after (answer 0 (73 * (6 + f.kept.count)))
    whole-page before after h e holds =
        promised (summary_record (Ok f)) i before after (answer 0 (73 * (6 + f.kept.count)))
        (sym (by_summary (sym i.account) before
        ∙ laid-whole (lines_bytes (lines_of a m)) before (omega (arith, h, bytes))
        ∙ (λ j. record { answer = record { code = 0; value = bytes j }; buffer = (sym (e ∙ from_start before (lines_bytes (lines_of a m)))) j })))
        (λ z. absurd (omega (arith, z))) (λ z. ap (λ (s : Summary). 73 * (6 + s.kept.count)) i.account)
        (λ z. rw (e ∙ from_start before (lines_bytes (lines_of a m))) (lines-stand (lines_of a m) (drop (length (lines_bytes (lines_of a m))) before) holds))
