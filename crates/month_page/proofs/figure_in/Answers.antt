use Rattle.std.proofs.Common.{ℕ, List, ◌≡◌, ◌++◌, length, drop, rules, subst, sym, ap, refl}
use Rattle.printing.specs.Printer.{Prints}
use Rattle.printing.specs.declared.Printer.{Printer}
use Rattle.month_page.specs.Page.{figure_or_none}
use Rattle.month_page.proofs.Lines.{figure-put}
use Rattle.month_page.proofs.figure_in.Goals.{in-Some, in_default}
use Rattle.month_page.proofs.figure_in.Goals as goal

pub returns : goal.returns
returns c =
    -- the buffer that is left is the printer's
    let left : List ℕ → Type 0 = λ l.
    (c.match-n.figure.at ≡ length (figure_or_none c.args.n)) × (l ≡ figure_or_none c.args.n ++ drop c.match-n.figure.at c.args.out.now) in
    elim c.match-n.branch [
      | in-Some w ↦
          let v : Prints _ _ c.match-n.figure = rw (sym w.figure-is) at w.put_hundredths.ensures in
          let stands : left c.match-n.figure.out.now = rw w.in-Some.is (figure-put _ _ _ _ c.requires v.puts) in
          subst left (search (rules, v.same)) stands
      | in_default w ↦
          let stands : left c.args.out.now = rw (w.in_default.is, ap (λ (p : Printer). p.at) w.figure-is) (refl, refl) in
          subst left (search (rules, w.figure-is)) stands
    ]
