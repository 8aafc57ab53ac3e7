use Rattle.std.proofs.Common.{rules, sym, ◌∙◌}
use Rattle.account.specs.Record.{fresh}
use Rattle.numbers.specs.Numbers.{payment_numbers, totals_numbers}
use Rattle.numbers.proofs.Posts.{opened, refused}
use Rattle.numbers.proofs.Numbers.open.Goals as goal

pub returns-then-not-is_valid : goal.returns-then-not-is_valid
returns-then-not-is_valid c = refused _ _ (sym c.is_valid.ensures ∙ c.if-not-is_valid.true)

pub returns : goal.returns
unfolding fresh payment_numbers totals_numbers
returns c = opened _ _ c.default-self.result _ c.default-self-2.result c.default-self-3.result (search rules) (search rules) (search rules) (search rules) (sym c.is_valid.ensures ∙ c.if-not-is_valid.false)
