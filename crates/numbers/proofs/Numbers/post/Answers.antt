use Rattle.std.proofs.Common.{rules}
use Rattle.numbers.proofs.Posts.{accepts, refuses}
use Rattle.numbers.proofs.Numbers.post.Goals as goal

pub returns-in_err-m : goal.returns-in_err-m
returns-in_err-m c = search (rules, refuses c.args.self.now c.args.e c.in_err-m.field-0.0 c.in_err-m.ensures)

pub returns : goal.returns
returns c = rw c.write.ensures (accepts _ _ _ c.in_ok-m.ensures)
