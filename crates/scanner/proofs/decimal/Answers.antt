-- `scanner::decimal` meets its contract. Assumes nothing.
use Rattle.std.proofs.Common.{◌≡◌, ◌+◌, ◌*◌, ◌<◌, sym, ◌∙◌, rules}
use Rattle.scanner.proofs.Numbers.{next-digit}
use Rattle.scanner.proofs.decimal.Goals as goal

pub loop-byte-preserved : goal.loop-byte-preserved
loop-byte-preserved c =
    let l = c.loop-byte in
    let d = c.in_ok-digit.field-0 in
    let sum : (c.in_ok-number.number ≡ l.number * 10 + d) × (c.in_ok-number.number < 4294967296) = search rules in
    next-digit _ _ _ l.invariant c.loop-byte-test.true d (sym c.in_ok-digit.was ∙ c.digit.ensures) _ sum.0 sum.1
