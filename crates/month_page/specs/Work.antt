-- What the private functions of the page ask and leave. No promise to others cites these.
use Rattle.std.specs.Prelude.{ℕ, ◌≡◌, false, List, [], ◌∷◌, Some}
use Rattle.printing.specs.Printing.{hundredths}
use Rattle.printing.specs.Printer.{Writes}
use Rattle.printing.specs.declared.Printer.{Printer}
use Rattle.month_page.specs.declared.Line.{Line}
use Rattle.month_page.specs.Page.{label, figure, hundredths_of, line_bytes, lines_bytes}
use Rattle.month_page.specs.Columns.{IsLaidOut, is_average}

-- Every figure but the average stands: none is too wide.
abbrev pub FigureStands : Line → Type 0
FigureStands x = (n : ℕ) → is_average x ≡ false → hundredths_of x ≡ Some n → figure x ≡ hundredths n

abbrev pub FiguresStand : List Line → Type 0
FiguresStand [] = Unit
FiguresStand (x ∷ xs) = FigureStands x × FiguresStand xs

-- a line by itself
pub record Holds (x : Line) : Type 0 where
  pub laid_out : IsLaidOut (label x) (figure x) (line_bytes x)
  pub stands : FigureStands x

abbrev pub EachHolds : List Line → Type 0
EachHolds [] = Unit
EachHolds (x ∷ xs) = Holds x × EachHolds xs

-- The lines are written, and hold.
pub record Lays (p : Printer) (xs : List Line) (q : Printer) : Type 0 where
  pub writes : Writes p (lines_bytes xs) q
  pub holds : EachHolds xs
