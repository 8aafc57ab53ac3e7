-- `Progress::put_events` meets its contract. Assumes nothing.
use Rattle.std.proofs.Common.{◌≡◌, ◌-◌, length, false}
use Rattle.transcript.proofs.Turn.{Going}
use Rattle.transcript.proofs.Progress.put_events.Given as goal

abbrev pub invariant-loop-self : goal.invariant-loop-self
invariant-loop-self l =
    let p = l.initial.self in
    (l.page.out.ghost_name ≡ l.initial.page.out.ghost_name) × (l.self.code ≡ 0) × (l.self.done ≡ false)
    × Going l.text p.account p.at p.count l.initial.page.out.now l.page.out.now l.self.account l.self.at l.self.count l.page.at

abbrev pub decreases-loop-self : goal.decreases-loop-self
decreases-loop-self l = length l.text - l.self.at
