-- `scanner::decimal` meets its contract. The loop's invariant: what was read and what is left make the number. Assumes nothing.
use Rattle.scanner.proofs.Numbers.{GoesOn}
use Rattle.scanner.proofs.decimal.Given as goal

abbrev pub invariant-loop-byte : goal.invariant-loop-byte
invariant-loop-byte l = GoesOn l.digits l.byte-index l.number
