-- `Printer::put_bytes` meets its contract. Assumes nothing.
use Rattle.std.proofs.Common.{◌≡◌, ◌+◌, ◌-◌, List, ℕ, length, take, drop, leb, true, refl, sym, ap, ◌∙◌, ◌++◌, ◌∷◌, [], get_or, arith}
use Rattle.std.proofs.lemmas.List.{length-take-le, length-drop, take_all, take_more, take_more_set}
use borrow.Author.Tests.{leb-true}
use Rattle.printing.proofs.Laws.{puts-all, puts-nothing, placed}
use Rattle.printing.proofs.Printer.put_bytes.Goals as goal

part_length : (b : List ℕ) (at n : ℕ) → leb (at + n) (length b) ≡ true → length (take (at + n - at) (drop at b)) ≡ n
part_length b at n t = let h = leb-true _ _ t in length-take-le _ _ (omega (arith, length-drop at b)) ∙ omega arith

pub loop-i-preserved : goal.loop-i-preserved
loop-i-preserved c =
    let long = c.loop-i.auto.part ∙ part_length _ _ _ (sym c.has_room.ensures ∙ c.if-has_room.true) in
    take_more_set _ _ _ (omega (arith, long, c.loop-i-test.true))
    ∙ ap (λ l. l ++ (get_or c.args.bytes.now c.loop-i.i 0 ∷ [])) c.loop-i.invariant
    ∙ sym (take_more c.args.bytes.now c.loop-i.i 0 c.loop-i-test.true)

pub returns-after-loop-i : goal.returns-after-loop-i
returns-after-loop-i c =
    let p = c.args.self.now in
    let t : leb (p.at + length c.args.bytes.now) (length p.out.now) ≡ true = sym c.has_room.ensures ∙ c.if-has_room.true in
    let whole : c.loop-i.part ≡ c.args.bytes.now =
    sym (take_all c.loop-i.i c.loop-i.part (omega (arith, c.loop-i.auto.part ∙ part_length _ _ _ t, c.loop-i-test.false)))
    ∙ c.loop-i.invariant ∙ take_all c.loop-i.i c.args.bytes.now c.loop-i-test.false in
    record { same = refl; puts = puts-all _ _ _ _ _ (leb-true _ _ t) (placed p.out.now p.at _ _ whole) refl }

pub returns-else-has_room : goal.returns-else-has_room
returns-else-has_room c = record { same = refl; puts = puts-nothing _ _ _ (sym c.has_room.ensures ∙ c.if-has_room.false) }
