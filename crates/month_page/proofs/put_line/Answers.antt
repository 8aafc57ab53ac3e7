use Rattle.std.proofs.Common.{ℕ, ◌-◌, ◌≡◌, ◌+◌, ◌≤◌, length, take, replicate, sym, ap, ◌∙◌, arith}
use Rattle.std.proofs.lemmas.List.{take-replicate}
use lib.Seq.{take_at}
use Rattle.month_page.specs.Page.{label, figure, figure_or_none, hundredths_of, line_bytes}
use Rattle.month_page.proofs.Lines.{figure-fits, line-written, laid-out}
use Rattle.month_page.proofs.Lays.{lays-line}
use Rattle.month_page.proofs.put_line.Goals as goal

pub returns : goal.returns
unfolding line_bytes figure
returns c =
    let x = c.args.line in
    let w = c.put_label.ensures in
    let f = c.figure_in-length.ensures in
    let n = ap (λ o. length (figure_or_none o)) c.hundredths_of.ensures in
    let first : take {A = ℕ} (c.args.page.now.at + 58 - c.put_label.new.page.at) (replicate 58 32) ≡ replicate {A = ℕ} (58 - length (label x)) 32 =
    take-replicate (c.args.page.now.at + 58 - c.put_label.new.page.at) 58 32 (omega (arith, w.0.wrote.next)) ∙ ap (λ (k : ℕ). replicate k 32) (omega (arith, w.0.wrote.next)) in
    let second : take {A = ℕ} (14 - c.figure_in-length.result) (replicate 58 32) ≡ replicate (14 - length (figure x)) 32 =
    take-replicate (14 - c.figure_in-length.result) 58 32 (omega arith) ∙ ap (λ (k : ℕ). replicate (14 - k) 32) (f.0 ∙ n) in
    let digits : take c.figure_in-length.result c.figure_in-length.new.out ≡ figure x =
    ap (take c.figure_in-length.result) f.1 ∙ take_at (figure_or_none c.hundredths_of.result) _ c.figure_in-length.result (sym f.0) ∙ ap figure_or_none c.hundredths_of.ensures in
    let short : length (label x) ≤ 58 = omega (arith, w.0.wrote.next, w.1) in
    lays-line x (line-written (label x) (figure x) (figure-fits (hundredths_of x)) c.requires.0 w
    (rw first at c.put_bytes.ensures) (rw second at c.put_bytes-2.ensures) (rw digits at c.put_bytes-3.ensures) c.put_bytes-4.ensures)
    (record { laid_out = laid-out (label x) (figure x) short (figure-fits (hundredths_of x)); stands = c.requires.1 })
