-- What T-02 claims of the columns: "The columns are shown right for all line sorts together."
use Rattle.std.specs.Prelude.{ℕ, ◌+◌, ◌-◌, ◌≤◌, ◌<◌, ◌≡◌, ◌⊎◌, Bool, true, false, List, [], ◌∷◌, length, get_or, take, drop, Option, Some, None}
use Rattle.scanner.specs.Scanner.{feed}
use Rattle.printing.specs.Printing.{hundredths}
use Rattle.month_page.specs.declared.Line.{Line}
use Rattle.month_page.specs.declared.Line.TheVariants.{Month, Paid, Usage, Kind, Average}
use Rattle.month_page.specs.Page.{label, figure, hundredths_of}

-- A line as it is printed, of a label and a figure: byte c of it stands in column c + 1.
pub record IsLaidOut (word shown line : List ℕ) : Type 0 where
  -- 72 columns and a line feed
  pub size : length line ≡ 73
  pub ended : get_or line 72 0 ≡ feed
  -- the label from column 1, and the figure to column 72, within the last 14
  pub label : take (length word) line ≡ word
  pub figure : take (length shown) (drop (72 - length shown) line) ≡ shown
  pub within : length shown ≤ 14
  -- they never meet
  pub apart : length word + 14 ≤ 72
  -- spaces elsewhere
  pub spaces : (c : ℕ) → length word ≤ c → c < 72 - length shown → get_or line c 0 ≡ 32

abbrev pub is_average : Line → Bool
is_average (Month year month) = false
is_average (Paid date amount) = false
is_average (Usage wh cost) = false
is_average (Kind kind sum) = false
is_average (Average average) = true

-- What is shown of a line's number: nothing where it has none; else the number with two decimals, but an average that is too wide.
abbrev pub Shows : Bool → List ℕ → Option ℕ → Type 0
Shows average shown None = shown ≡ []
Shows average shown (Some n) = (shown ≡ hundredths n) ⊎ ((average ≡ true) × (14 < length (hundredths n)) × (shown ≡ []))

-- A line of whatever sort, at the start of some bytes.
pub record Stands (x : Line) (s : List ℕ) : Type 0 where
  pub laid_out : IsLaidOut (label x) (figure x) (take 73 s)
  pub shows : Shows (is_average x) (figure x) (hundredths_of x)

-- Each line in turn, 73 bytes after the one before.
abbrev pub EachStands : List Line → List ℕ → Type 0
EachStands [] s = Unit
EachStands (x ∷ xs) s = Stands x s × EachStands xs (drop 73 s)
