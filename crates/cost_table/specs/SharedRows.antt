-- Rows whose first cells stand in a block that tables share, and whose other cells stand in a table's own.
use Rattle.std.specs.Prelude.{◌≡◌, ◌/◌, ◌≤◌, ℕ, Bool, List, [], ◌∷◌, ◌++◌, All, length, map, nat_lt, slice_index_or, sum, take}
use Rattle.cost_table.specs.declared.table_rows.RowPlace.{RowPlace}
use Rattle.cost_table.specs.declared.table_rows.TableRows.{TableRows}

-- the first cells of a row of the shared block
abbrev pub shared_cells : (shared : List (List (ℕ × ℕ))) → RowPlace → List (ℕ × ℕ)
shared_cells shared place = take place.count (slice_index_or shared place.shared [])

-- the cells of an own row; they are counted from 1, and number 0 stands for no cells
abbrev pub own_cells : (own : List (List (ℕ × ℕ))) → RowPlace → List (ℕ × ℕ)
own_cells own place = slice_index_or ([] ∷ own) place.own []

abbrev pub row_among : (shared own : List (List (ℕ × ℕ))) → RowPlace → List (ℕ × ℕ)
row_among shared own place = shared_cells shared place ++ own_cells own place

abbrev pub rows_among : (shared own : List (List (ℕ × ℕ))) → (places : List RowPlace) → List (List (ℕ × ℕ))
rows_among shared own places = map (row_among shared own) places

abbrev pub ArePlaces : (own : List (List (ℕ × ℕ))) → List RowPlace → Type 0
ArePlaces own places = All (λ place. place.own ≤ length own) places

-- the rows of a table, one for each of its wagons
abbrev pub rows_in : TableRows → List (List (ℕ × ℕ))
rows_in rows = rows_among rows.shared.value rows.own rows.places.items

-- whether each own row is there
abbrev pub HasPlaces : TableRows → Type 0
HasPlaces rows = ArePlaces rows.own rows.places.items

-- one row more
pub record HasRowMore (old new : TableRows) (row : List (ℕ × ℕ)) : Type 0 where
  pub shared : new.shared.value ≡ old.shared.value
  pub rows : rows_in new ≡ rows_in old ++ row ∷ []
  pub placed : HasPlaces new

-- the same rows
pub record HasSameRows (old new : TableRows) : Type 0 where
  pub shared : new.shared.value ≡ old.shared.value
  pub rows : rows_in new ≡ rows_in old
  pub placed : HasPlaces new

-- how many cells rows have in all
abbrev pub cell_count : List (List (ℕ × ℕ)) → ℕ
cell_count rows = sum (map length rows)

-- more own cells than a quarter of the shared ones
abbrev pub are_scattered : TableRows → Bool
are_scattered rows = nat_lt (cell_count rows.shared.value / 4) (cell_count rows.own)
