-- What the payments passed come to.
use Prim.Native.Nat.{◌+◌, ◌≤◌, ◌*◌}
use mathlib.Core.Path.{◌≡◌}
use Rattle.months.specs.Summary.{payment_kept, payment_reversed, counted_by}
use Rattle.months.specs.Summary.{max_field}
use Rattle.months.specs.Work.{span}
use Rattle.months.proofs.paid_in.Given as goal

abbrev pub invariant-loop-number : goal.invariant-loop-number
invariant-loop-number g l =
    let payments = (g.A.AsAccount.account l.a).payments in
    record {
      kept : l.kept ≡ counted_by (span l.days) payment_kept payments l.number;
      reversed : l.reversed ≡ counted_by (span l.days) payment_reversed payments l.number;
      count : l.kept.count + l.reversed.count ≤ l.number;
      sum : l.kept.sum + l.reversed.sum ≤ l.number * max_field;
    }
