-- Rows that are searched by order.
use Rattle.std.specs.Prelude.{◌<◌, ℕ, List, length, slice_index_or}

-- the order of the cell at index k of a row
abbrev pub order_of_cell : List (ℕ × ℕ) → ℕ → ℕ
order_of_cell row k = (slice_index_or row k (0, 0)).0

abbrev pub IsAscendingRow : List (ℕ × ℕ) → Type 0
IsAscendingRow row = (i j : ℕ) → i < j → j < length row → order_of_cell row i < order_of_cell row j
