-- What the private function of the words answers.
use Rattle.std.specs.Prelude.{ℕ, cond, eqb, List, Option, Some, None}
use Rattle.text.specs.Text.{sorts, sort_in}

-- the sort that a word names
unfoldable pub sort_of : List ℕ → Option ℕ
sort_of w = cond (eqb (sort_in sorts w) 0) None (Some (sort_in sorts w))
