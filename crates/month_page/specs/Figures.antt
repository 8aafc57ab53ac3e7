-- What is shown of a number: the readings of docs/DECISIONS.md 79, and either side of what a figure's columns hold.
use Rattle.std.specs.Prelude.{ℕ, List, [], ◌∷◌, Option, Some, None}
use Rattle.scanner.specs.Scanner.{bytes}
use Rattle.month_page.specs.declared.Line.TheVariants.{Average}
use Rattle.month_page.specs.Page.{figure}

-- an average, and its figure
pub record Shown : Type 0 where
  pub average : Option ℕ
  pub expected : List ℕ

abbrev pub shown : Shown → List ℕ
shown x = figure (Average x.average)

abbrev pub row : Option ℕ → List ℕ → Shown
row average expected = record { average = average; expected = expected }

unfoldable pub averages : List Shown
averages =
    -- two decimals, at least one digit before them
    row (Some 15938) (bytes "159.38")
    ∷ row (Some 6000) (bytes "60.00")
    ∷ row (Some 5) (bytes "0.05")
    ∷ row (Some 0) (bytes "0.00")
    -- too wide is over 14 characters
    ∷ row (Some 9999999999999) (bytes "99999999999.99")
    ∷ row (Some 10000000000000) []
    -- "An average missing or too wide is 14 spaces."
    ∷ row None []
    ∷ []
