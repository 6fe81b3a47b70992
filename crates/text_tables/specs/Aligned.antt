-- A table as lines: each column is as wide as its widest cell, two spaces stand between columns, and behind the last cell of a
-- line nothing stands.
use Rattle.std.specs.Prelude.{◌+◌, ◌-◌, ◌==◌, if◌then◌else◌, ℕ, false, max, List, [], ◌∷◌, ◌++◌, length, fold, replicate, chars, slice_index_or}
use Rattle.std.specs.List.{flat_map, range_with_len}
use Rattle.unicode_width.specs.Width.{str_width}
use Rattle.text_tables.specs.Row.{Row}
use Rattle.text_tables.specs.declared.aligned.Side.{Side}
use Rattle.text_tables.specs.declared.aligned.Side.TheVariants.{Left, Right}

-- how many columns of a terminal a cell takes
abbrev pub cell_width : (cell : List ℕ) → ℕ
cell_width cell = str_width false (chars cell)

-- cell k of a row
abbrev pub cell_at : Row → (k : ℕ) → List ℕ
cell_at row k = slice_index_or row k []

-- how wide column k is
abbrev pub column_width : List Row → (k : ℕ) → ℕ
column_width rows k = fold (λ width row. max width (cell_width (cell_at row k))) 0 rows

-- so many spaces fill the column
abbrev pub filling : (width : ℕ) → (cell : List ℕ) → List ℕ
filling width cell = replicate (width - cell_width cell) 32

-- a cell at the left or the right of its column
abbrev pub aligned : Side → (width : ℕ) → (cell : List ℕ) → List ℕ
aligned Left width cell = cell ++ filling width cell
aligned Right width cell = filling width cell ++ cell

-- the same, and the spaces before the next column
abbrev pub filled : Side → (width : ℕ) → (cell : List ℕ) → List ℕ
filled side width cell = aligned side width cell ++ 32 ∷ 32 ∷ []

-- what stands in column k of a line
abbrev pub column_text : List Side → List Row → Row → (k : ℕ) → List ℕ
column_text sides rows row k =
    if k + 1 == length sides then cell_at row k
    else filled (slice_index_or sides k Left) (column_width rows k) (cell_at row k)

abbrev pub row_line : List Side → List Row → Row → List ℕ
row_line sides rows row = flat_map (column_text sides rows row) (range_with_len 0 (length sides)) ++ 10 ∷ []

-- the lines of all rows
abbrev pub aligned_text : List Side → List Row → List ℕ
aligned_text sides rows = flat_map (row_line sides rows) rows
