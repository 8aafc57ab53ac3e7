use Rattle.numbers.proofs.Posts.{posts-row-in}
use Rattle.numbers.proofs.Numbers.post_row.Goals as goal

pub returns : goal.returns
returns c = let row = c.post_each.ensures in posts-row-in _ _ _ _ _ _ row.left row.account.bytes row.account.answer
