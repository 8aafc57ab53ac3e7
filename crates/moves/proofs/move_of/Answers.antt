-- `moves::move_of` meets its contract: an event that nothing refuses early is moved by its sort. Assumes nothing.
use mathlib.Core.Path.{sym, ◌∙◌}
use Rattle.moves.specs.Moves.{cells_before}
use Rattle.moves.proofs.Arms.{goes_on}
use Rattle.moves.proofs.Places.{is_move}
use Rattle.moves.proofs.move_of.Goals as goal

pub returns : goal.returns
unfolding cells_before
returns c =
    let same = c.in_ok-checked.ensures.same in
    is_move _ _ _ _ _ _ _ (simp (same.0, same.1, same.2) at (c.by_sort.ensures ∙ sym (goes_on _ _ _ _ c.in_ok-checked.checked.passed)))
