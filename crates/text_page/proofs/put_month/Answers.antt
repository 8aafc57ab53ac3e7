use Rattle.std.proofs.Common.{ℕ, List, ◌<◌, ◌^◌, ◌++◌, length, drop, rules, subst, refl, sym, ap, ◌∙◌, arith}
use Rattle.ledger.specs.Ledger.{answer}
use Rattle.ledger.specs.Refusals.{refusal_code}
use Rattle.ledger.proofs.Cases.{positive}
use Rattle.scanner.specs.Scanner.{bytes}
use Rattle.printing.specs.Printing.{decimal}
use Rattle.printing.specs.Printer.{Prints}
use Rattle.text_page.specs.TextPage.{PutsMonth}
use Rattle.text_page.proofs.Printed.{month-laid, month-refused, refusal-put}
use Rattle.text_page.proofs.put_month.Goals as goal

pub returns-in-Ok : goal.returns-in-Ok
returns-in-Ok c =
    let p = c.in-Ok.ensures in
    record {
      count = λ t es h. (month-laid c.args.a.now c.args.m c.args.out.now c.page.new.out (answer 0 c.in-Ok.length) t es h p refl).0;
      buffer = λ t es h. (month-laid c.args.a.now c.args.m c.args.out.now c.page.new.out (answer 0 c.in-Ok.length) t es h p refl).1;
    }

pub returns-in-Err : goal.returns-in-Err
returns-in-Err c =
    let a = c.args.a.now in
    let m = c.args.m in
    let before = c.args.out.now in
    let code = refusal_code c.in-Err.refusal in
    let refused = month-refused a m before c.page.new.out (answer code 0) in
    let w : Prints _ (bytes "code=" ++ decimal code) c.put_field.new.self = rw (c.from-in-Err.ensures ∙ c.from.ensures) at c.put_field.ensures in
    let few : code < 2 ^ 64 = rw (c.from-in-Err.ensures ∙ c.from.ensures) at c.from-in-Err.type_inv in
    -- the buffer that is left is the printer's
    let left : List ℕ → Type 0 = λ l. PutsMonth a m before l c.put_bytes.new.self.at in
    let stands : left c.put_bytes.new.self.out.now = record {
      count = λ t es h.
          let r = refused t es h c.in-Err.ensures (positive c.in-Err.refusal) c.requires in
          (refusal-put code w c.put_bytes.ensures refl few (omega (arith, c.requires, ap length r.1))).0 ∙ ap length (sym r.0);
      buffer = λ t es h.
          let r = refused t es h c.in-Err.ensures (positive c.in-Err.refusal) c.requires in
          (refusal-put code w c.put_bytes.ensures refl few (omega (arith, c.requires, ap length r.1))).1 ∙ (λ i. sym r.0 i ++ drop (length (sym r.0 i)) (r.1 i));
    } in
    subst left (search (rules, c.put_bytes.ensures.same ∙ w.same)) stands
