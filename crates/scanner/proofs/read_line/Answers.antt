-- `scanner::read_line` meets its contract: what `position` finds is the line feed. Assumes nothing.
use Rattle.std.proofs.Common.{rules, tests, eqb, take, sym, ◌∙◌}
use Rattle.std.proofs.lemmas.Iterator.{YieldsList-from_slice}
use Rattle.std.proofs.lemmas.Iterator.Search.{position_from_yields_List}
use Rattle.std.proofs.lemmas.List.{take_min}
use Rattle.scanner.proofs.Lines.{short-no-feed, feed-at}
use Rattle.scanner.proofs.read_line.Goals as goal

pub returns-in_err-end : goal.returns-in_err-end
returns-in_err-end c =
    let found = position_from_yields_List (λ b. eqb b 10) _ _ c.position.result c.position.ensures.ran (YieldsList-from_slice _ c.iter.ensures.rest) (λ x b q k. search (rules, tests)) in
    rw c.from_residual.ensures (short-no-feed _ _ (take c.min.result c.args.rest.now) (rw c.min.ensures (take_min c.args.most c.args.rest.now)) (sym c.in_err-end.was ∙ found))

pub returns : goal.returns
returns c =
    let found = position_from_yields_List (λ b. eqb b 10) _ _ c.position.result c.position.ensures.ran (YieldsList-from_slice _ c.iter.ensures.rest) (λ x b q k. search (rules, tests)) in
    feed-at _ _ (take c.min.result c.args.rest.now) (rw c.min.ensures (take_min c.args.most c.args.rest.now)) _ (sym c.in_ok-end.was ∙ found)
