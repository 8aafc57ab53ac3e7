-- An account's numbers are read as it, and a move's cells written among any numbers are those cells written into the account that they are
-- read as. Assumes nothing.
use mathlib.Core.Path.{◌≡◌, refl, sym, ap, ◌∙◌}
use mathlib.Core.Bool.{Bool, true, false}
use mathlib.Core.List.{List, [], ◌∷◌, map}
use lib.ListN.{set}
use lib.Seq.{map-set}
use Rattle.marks.specs.Marks.{marked}
use Rattle.ledger.specs.declared.Event.{Event}
use Rattle.tariff.specs.Prices.{with_price}
use Rattle.moves.specs.Moves.{Moved}
use Rattle.moves.specs.declared.Usage.{Usage}
use Rattle.moves.specs.declared.Usage.TheVariants.{Blank, Estimated, Metered}
use Rattle.moves.specs.declared.Day.{Day}
use Rattle.moves.specs.declared.Payment.{Payment}
use Rattle.moves.specs.declared.Totals.{Totals}
use Rattle.account.specs.Step.{usage_at, day_at, with_cells}
use Rattle.account.specs.declared.Account.{Account}
use Rattle.numbers.specs.declared.Numbers.{Numbers}
use Rattle.numbers.specs.Numbers.{is_yes, yes_no, usage_by_state, day_in, payment_in, totals_in, account_in, usage_numbers, day_numbers, payment_numbers, totals_numbers, numbers_of, with_move, NumbersComeBack}

-- ---- through a list

map-back : {A B : Type 0} (f : A → B) (g : B → A) → ((x : A) → g (f x) ≡ x) → (l : List A) → map g (map f l) ≡ l
map-back f g h [] = refl
map-back f g h (x ∷ l) = λ k. h x k ∷ map-back f g h l k

-- ---- the numbers of each come back

yes-back : (b : Bool) → is_yes (yes_no b) ≡ b
yes-back true = refl
yes-back false = refl

usage-back : (u : Usage) → usage_by_state (usage_numbers u) ≡ u
unfolding usage_by_state
usage-back Blank = refl
usage-back (Estimated wh cost) = refl
usage-back (Metered wh cost) = refl

day-back : (d : Day) → day_in (day_numbers d) ≡ d
day-back d = λ k. record { usage = usage-back d.usage k }

payment-back : (p : Payment) → payment_in (payment_numbers p) ≡ p
unfolding payment_in payment_numbers
payment-back p = λ k. record { day = p.day; amount = p.amount; part = p.part; reversed = yes-back p.reversed k }

totals-back : (s : Totals) → totals_in (totals_numbers s) ≡ s
unfolding totals_in totals_numbers
totals-back s = λ k. record { credit = s.credit; debit = s.debit; plan = s.plan; standing = s.standing; count = s.count; events = s.events; last = s.last; on = yes-back s.on k }

pub come-back : NumbersComeBack
unfolding numbers_of
come-back a = λ k. record {
  terms = a.terms;
  totals = totals-back a.totals k;
  days = map-back day_numbers day_in day-back a.days k;
  marks = a.marks;
  warned = a.warned;
  payments = map-back payment_numbers payment_in payment-back a.payments k;
  charges = a.charges;
  prices = a.prices;
}

-- ---- a move's cells, written

pub moved-in : (n : Numbers) (e : Event) (m : Moved) → account_in (with_move n e m) ≡ with_cells (account_in n) e m
moved-in n e m = λ k. record {
  terms = n.terms;
  totals = totals-back m.totals k;
  days = (map-set day_in n.days (usage_at e) (day_numbers m.day) ∙ ap (set (map day_in n.days) (usage_at e)) (day-back m.day)) k;
  marks = marked n.marks m.kind m.from m.to;
  warned = set n.warned (day_at e) m.warned;
  payments = (map-set payment_in n.payments m.number (payment_numbers m.payment) ∙ ap (set (map payment_in n.payments) m.number) (payment-back m.payment)) k;
  charges = set n.charges m.place m.sum;
  prices = with_price n.prices m.price_place e.day e.amount;
}

-- the same of an account's own numbers
pub moved-of : (a : Account) (e : Event) (m : Moved) → with_move (numbers_of a) e m ≡ numbers_of (with_cells a e m)
unfolding numbers_of
moved-of a e m = λ k. record {
  totals = totals_numbers m.totals;
  charges = set a.charges m.place m.sum;
  terms = a.terms;
  prices = with_price a.prices m.price_place e.day e.amount;
  days = sym (map-set day_numbers a.days (usage_at e) m.day) k;
  payments = sym (map-set payment_numbers a.payments m.number m.payment) k;
  spare = 0;
  marks = marked a.marks m.kind m.from m.to;
  warned = set a.warned (day_at e) m.warned;
}
