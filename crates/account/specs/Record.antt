-- The account record: its blank cells, and a fresh one.
use Rattle.std.specs.Prelude.{false, replicate}
use Rattle.calendar.specs.Calendar.{day_count}
use Rattle.tariff.specs.Prices.{opening_prices}
use Rattle.terms.specs.declared.Terms.{Terms}
use Rattle.ledger.specs.Rules.{max_payments}
use Rattle.moves.specs.Moves.{charge_places}
use Rattle.moves.specs.declared.Usage.TheVariants.{Blank}
use Rattle.moves.specs.declared.Day.{Day}
use Rattle.moves.specs.declared.Payment.{Payment}
use Rattle.account.specs.declared.Account.{Account}

abbrev pub blank_day : Day
blank_day = record { usage = Blank }

abbrev pub no_payment : Payment
no_payment = record { day = 0; amount = 0; part = 0; reversed = false }

-- "A fresh account has balance B = 0, unpaid plan R = 0, service off, all usage days blank, no marks, no warnings."
unfoldable pub fresh : Terms → Account
fresh t = record {
  terms = t;
  totals = record { credit = 0; debit = 0; plan = 0; standing = 0; count = 0; events = 0; last = 0; on = false };
  days = replicate day_count blank_day;
  marks = replicate day_count 0;
  warned = replicate day_count 0;
  payments = replicate max_payments no_payment;
  charges = replicate charge_places 0;
  prices = opening_prices t.price;
}
