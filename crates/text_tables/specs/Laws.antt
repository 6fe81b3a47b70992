-- Laws of rows as lines of JSON.
use Rattle.std.specs.Prelude.{◌≡◌, ◌<◌, ◌^◌, ℕ, All, decimal, List, [], ◌∷◌, map, length}
use Rattle.std.specs.Str.{IsUtf8}
use Rattle.json.specs.Json.{Json, null, boolean, number, string, array, object}
use Rattle.text_tables.specs.Form.{rows_text}
use Rattle.text_tables.specs.JsonLines.{AreObjectLines, Member}
use Rattle.text_tables.specs.Row.{Row}
use Rattle.text_tables.specs.RowMembers.{cell_value, row_members}
use Rattle.text_tables.specs.declared.aligned.Side.{Side}
use Rattle.text_tables.specs.declared.aligned.Side.TheVariants.{Right}
use Rattle.text_tables.specs.declared.form.Form.TheVariants.{Json as as_json}

-- each row below the titles is a line: the object of its titles with its cells
abbrev pub RowsAreLines : Type 0
RowsAreLines =
    (sides : List Side) (titles : Row) (rows : List Row) → AreObjectLines (row_members sides titles) rows (rows_text as_json sides (titles ∷ rows))

-- the cell that a value was made of
abbrev pub cell_of : Json → List ℕ
cell_of null = []
cell_of (boolean _) = []
cell_of (number cell) = cell
cell_of (string cell) = cell
cell_of (array _) = []
cell_of (object _) = []

-- the members of a row have the names of the titles, and where it is as long as these, its cells as they were
pub record RowIsKept (sides : List Side) (titles row : Row) : Type 0 where
  pub names : map (λ (m : Member). m.0) (row_members sides titles row) ≡ titles
  pub cells : length row ≡ length titles → map (λ (m : Member). cell_of m.1) (row_members sides titles row) ≡ row

abbrev pub RowsAreKept : Type 0
RowsAreKept = (sides : List Side) (titles row : Row) → RowIsKept sides titles row

-- where titles and cells are in UTF-8, the lines are
abbrev pub LinesAreUtf8 : Type 0
LinesAreUtf8 =
    (sides : List Side) (titles : Row) (rows : List Row) → All IsUtf8 titles → All (λ row. All IsUtf8 row) rows
    → IsUtf8 (rows_text as_json sides (titles ∷ rows))

-- a number at the right is a number
abbrev pub NumbersAreNumbers : Type 0
NumbersAreNumbers = (n : ℕ) → n < 2 ^ 64 → cell_value Right (decimal n) ≡ number (decimal n)
