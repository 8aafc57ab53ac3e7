-- `text::form_of` meets its contract. Assumes nothing.
use Rattle.std.proofs.Common.{◌-◌, length, length-drop, rules, sym, ap, ◌∙◌, arith}
use Rattle.text.proofs.Laws.{terms-rest}
use Rattle.text.proofs.Breaks.{at_end, event_more, event_breaks, too_long, terms_break, terms_read}
use Rattle.text.proofs.form_of.Goals as goal

pub returns-then-text-gt-MAX_TEXT : goal.returns-then-text-gt-MAX_TEXT
returns-then-text-gt-MAX_TEXT c = sym (too_long _ c.if-text-gt-MAX_TEXT.true)

pub returns-in_default : goal.returns-in_default
returns-in_default c = sym (terms_break _ c.if-text-gt-MAX_TEXT.false c.in_default.ensures)

pub loop-rest-init : goal.loop-rest-init
loop-rest-init c =
    let h = c.if-text-gt-MAX_TEXT.false in
    let t = c.args.text.now in
    let r = c.in-Some.rest.now in
    (terms_read t h _ r c.in-Some.ensures, omega arith, omega (arith, ap length (terms-rest t _ r c.in-Some.ensures), length-drop (length t - length r) t), h)

pub returns-in_default-read_event : goal.returns-in_default-read_event
returns-in_default-read_event c =
    let i = c.loop-rest.invariant in
    sym (i.0 ∙ event_breaks _ _ _ (search rules) c.in_default-read_event.ensures.read ∙ search rules)

pub loop-rest-preserved : goal.loop-rest-preserved
loop-rest-preserved c =
    let i = c.loop-rest.invariant in
    let e = c.in-Some-read_event.ensures in
    (i.0 ∙ event_more _ _ _ _ _ (search rules) e.read, omega arith, omega (arith, i.2, e.shorter), i.3)

pub returns : goal.returns
returns c = sym (c.loop-rest.invariant.0 ∙ at_end _ _ _ (search rules))
