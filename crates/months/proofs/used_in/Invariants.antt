-- What the days passed come to; those before the range come to nothing.
use Prim.Native.Nat.{◌+◌, ◌≤◌, ◌*◌}
use mathlib.Core.Path.{◌≡◌}
use Rattle.months.specs.Summary.{metered_by, estimated_by}
use Rattle.months.specs.Summary.{max_field}
use Rattle.months.specs.Work.{span}
use Rattle.months.proofs.used_in.Given as goal

abbrev pub invariant-loop-number : goal.invariant-loop-number
invariant-loop-number g l =
    let days = (g.A.AsAccount.account l.a).days in
    record {
      metered : l.metered ≡ metered_by (span l.days) days l.number;
      estimated : l.estimated ≡ estimated_by (span l.days) days l.number;
      wh : l.metered.wh + l.estimated.wh ≤ l.number * max_field;
      cost : l.metered.cost + l.estimated.cost ≤ l.number * max_field;
    }
