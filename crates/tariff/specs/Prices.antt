-- The prices of an account by day, as the record has them: in cells, day 0's first, then those of later days, in order.
use Rattle.std.specs.Prelude.{ℕ, zero, suc, ◌+◌, ◌≤◌, ◌≡◌, Bool, false, cond, ◌||◌, List, [], ◌∷◌, replicate, set, ltb, leb, eqb}
use Rattle.std.specs.List.{prefix_len}
use Rattle.calendar.specs.Calendar.{day_count}
use Rattle.tariff.specs.Tariff.{max_price_days}
use Rattle.tariff.specs.declared.DayPrice.{DayPrice}

-- day 0's price, and those of sixteen days after it
abbrev pub price_cells : ℕ
price_cells = max_price_days + 1

abbrev pub day_price : ℕ → ℕ → DayPrice
day_price day price = record { day = day; price = price }

-- a cell that is not taken: its day is none of the account's
abbrev pub no_price : DayPrice
no_price = day_price day_count 0

-- "The opening price counts as day 0's."
abbrev pub opening_prices : ℕ → List DayPrice
opening_prices price = day_price 0 price ∷ replicate max_price_days no_price

-- The price in force on day u: the cells are passed in order up to the first whose day is above u; that of the last passed, or the price given
-- where none is, for which the opening price is given.
unfoldable pub in_force : ℕ → List DayPrice → ℕ → ℕ
in_force price [] u = price
in_force price (c ∷ cells) u = cond (leb c.day u) (in_force c.price cells u) price

-- The place of a price posted on day x: the first cell whose day is not before x, which in an account is the day's own or the first that is not
-- taken; past the cells where there is none.
abbrev pub price_place : List DayPrice → ℕ → ℕ
price_place cells x = prefix_len (λ (c : DayPrice). ltb c.day x) cells

-- a price p of day x written at a place; past the cells nothing is
abbrev pub with_price : List DayPrice → ℕ → ℕ → ℕ → List DayPrice
with_price cells place x p = cond (ltb place price_cells) (set cells place (day_price x p)) cells

-- whether day d has a cell
unfoldable pub has_price : List DayPrice → ℕ → Bool
has_price [] d = false
has_price (c ∷ cells) d = eqb c.day d || has_price cells d

-- no cell is taken
abbrev pub NoneTaken : List DayPrice → Type 0
NoneTaken [] = Unit {0}
NoneTaken (c ∷ cells) = (c ≡ no_price) × NoneTaken cells

-- The first n cells are taken, by days that ascend from `least` or later up to `last` or earlier, and no other is.
abbrev pub Taken : ℕ → ℕ → ℕ → List DayPrice → Type 0
Taken zero least last cells = NoneTaken cells
Taken (suc n) least last [] = ⊥
Taken (suc n) least last (c ∷ cells) = (least ≤ c.day) × (c.day ≤ last) × Taken n (suc c.day) last cells
