-- Rows as lines of JSON: of each row an object, whose members are the titles with the row's cells.
use Rattle.std.specs.Prelude.{ℕ, ◌==◌, ◌&&◌, if◌then◌else◌, nat_lt, not, Bool, false, List, [], ◌∷◌, ◌++◌, map, length, codes, slice_index, slice_index_or}
use Rattle.std.specs.Char.{is_ascii_digit}
use Rattle.std.specs.List.{flat_map, join_with_byte, list_all, range_with_len}
use Rattle.json.specs.Print as json
use Rattle.text_tables.specs.Aligned.{cell_at}
use Rattle.text_tables.specs.Row.{Row}
use Rattle.text_tables.specs.declared.aligned.Side.{Side}
use Rattle.text_tables.specs.declared.aligned.Side.TheVariants.{Left, Right}

-- a text as JSON has it: in quotation marks, with a backslash before each quotation mark and backslash, and each control
-- character escaped
abbrev pub json_text : List ℕ → List ℕ
json_text text = json.quoted text

-- a whole number as JSON has it: decimal digits, and no 0 before others
abbrev pub is_whole_number : (cell : List ℕ) → Bool
is_whole_number cell = list_all is_ascii_digit cell && not (nat_lt 1 (length cell) && (slice_index cell 0 == 48))

-- a number in a column of numbers, which are those at the right
abbrev pub stands_bare : Side → (cell : List ℕ) → Bool
stands_bare Left cell = false
stands_bare Right cell = is_whole_number cell

-- what stands for a cell: null for an empty one
abbrev pub value_text : Side → (cell : List ℕ) → List ℕ
value_text side cell =
    if length cell == 0 then codes "null"
    else if stands_bare side cell then cell
    else json_text cell

-- the member of column k: its title and its cell
abbrev pub member_text : List Side → (titles : Row) → Row → (k : ℕ) → List ℕ
member_text sides titles row k = json_text (cell_at titles k) ++ 58 ∷ value_text (slice_index_or sides k Left) (cell_at row k)

-- the members of all columns, parted by commas
abbrev pub members_text : List Side → (titles : Row) → Row → List ℕ
members_text sides titles row = join_with_byte 44 (map (member_text sides titles row) (range_with_len 0 (length titles)))

-- the line of a row
abbrev pub object_line : List Side → (titles : Row) → Row → List ℕ
object_line sides titles row = 123 ∷ members_text sides titles row ++ 125 ∷ 10 ∷ []

-- the lines of all rows below the titles
abbrev pub json_lines : List Side → List Row → List ℕ
json_lines sides [] = []
json_lines sides (titles ∷ rows) = flat_map (object_line sides titles) rows
