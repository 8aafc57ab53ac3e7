-- `ledger::figures_hold` meets its contract: the figures, by computation.
use mathlib.Core.Path.{◌≡◌, refl}
use mathlib.Core.List.{map}
use Rattle.tariff.specs.Tariff.{cost_of}
use Rattle.calendar.specs.Calendar.{month_length, next_of, date_on, total, length_after, days_after, weekday_after, weekday_of}
use Rattle.ledger.specs.Event.{in_limits}
use Rattle.ledger.specs.Entries.{any, count, sum, find, last_day, payment_count, payment, reversed, warned, price_on, priced, price_days, usage_day, covered, barred, business, weather_recent}
use Rattle.calendar.specs.Days.{count_days, any_day}
use Rattle.ledger.specs.Rules.{may_defer, refusals, first_of}
use Rattle.ledger.specs.Ledger.{plan_part, pay_effect, reverse_effect, estimate_effect, read_effect, deferred, plan_effect, effect_of, refusal, ledger_step}
use Rattle.ledger.specs.Figures.{Figure, run, shown, figures}
use Rattle.ledger.proofs.figures_hold.Goals as goal

computed : map shown figures ≡ map (λ (f : Figure). f.expected) figures
unfolding
    figures shown run ledger_step refusal refusals first_of in_limits may_defer
    effect_of pay_effect plan_part reverse_effect estimate_effect read_effect deferred plan_effect
    any count sum find last_day payment_count payment warned usage_day reversed price_on priced price_days covered count_days barred business weather_recent any_day
    cost_of month_length next_of date_on total length_after days_after weekday_after weekday_of
computed = refl

pub returns : goal.returns
returns c = computed
