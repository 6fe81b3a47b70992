-- The wagons of a place on a map: how many of each class are free, promised, and neither.
use Rattle.std.specs.Prelude.{ℕ, Bool, not, ◌&&◌, ◌||◌, ◌==◌, nat_eq, if◌then◌else◌, List, [], ◌++◌, Option, Some, None, codes, count_by, decimal, is_some, length, slice_get, take}
use Rattle.std.specs.Cmp.Lexicographic.{pointwise}
use Rattle.std.specs.List.{flat_map, list_any, range_with_len}
use Rattle.wagons_and_orders.specs.Free.{free_of}
use Rattle.wagons_and_orders.specs.declared.wagon_row.WagonRow.{WagonRow}
use Rattle.office_map.specs.Words.{free_colour, promised_colour}

abbrev pub is_free : WagonRow → Bool
is_free row = is_some (free_of row)

abbrev pub is_promised : WagonRow → Bool
is_promised row = is_some row.promise

-- neither free nor promised
abbrev pub is_other : WagonRow → Bool
is_other row = not (is_free row || is_promised row)

abbrev pub is_of_class : List ℕ → WagonRow → Bool
is_of_class class row = pointwise nat_eq class row.class

abbrev pub is_free_of : List ℕ → WagonRow → Bool
is_free_of class row = is_of_class class row && is_free row

abbrev pub is_promised_of : List ℕ → WagonRow → Bool
is_promised_of class row = is_of_class class row && is_promised row

abbrev pub is_other_of : List ℕ → WagonRow → Bool
is_other_of class row = is_of_class class row && is_other row

-- a number on a colour; nothing in place of 0
abbrev pub number_on : (colour : List ℕ) → ℕ → List ℕ
number_on colour number = if number == 0 then codes ">" else colour ++ codes ">" ++ decimal number

-- the cell of such a number
abbrev pub number_cell : (colour : List ℕ) → ℕ → List ℕ
number_cell colour number = codes "<TD WIDTH=\"14\"" ++ number_on colour number ++ codes "</TD>"

-- the name of a class, and how many of its wagons are free, promised and neither
abbrev pub class_cell : List ℕ → List ℕ
class_cell class = codes "    <TR><TD ALIGN=\"LEFT\">" ++ class ++ codes "</TD>"

abbrev pub free_cell : List WagonRow → List ℕ → List ℕ
free_cell rows class = number_cell free_colour (count_by (is_free_of class) rows)

abbrev pub promised_cell : List WagonRow → List ℕ → List ℕ
promised_cell rows class = number_cell promised_colour (count_by (is_promised_of class) rows)

abbrev pub other_cell : List WagonRow → List ℕ → List ℕ
other_cell rows class = number_cell [] (count_by (is_other_of class) rows)

-- the line of a class
abbrev pub class_line : List WagonRow → List ℕ → List ℕ
class_line rows class = class_cell class ++ free_cell rows class ++ promised_cell rows class ++ other_cell rows class ++ codes "</TR>\n"

-- The line of a wagon's class. It stands where the first wagon of the class does; `earlier` are the wagons before this one.
abbrev pub class_of : (earlier rows : List WagonRow) → Option WagonRow → List ℕ
class_of earlier rows None = []
class_of earlier rows (Some row) = if list_any (is_of_class row.class) earlier then [] else class_line rows row.class

abbrev pub class_at : List WagonRow → ℕ → List ℕ
class_at rows i = class_of (take i rows) rows (slice_get rows i)

-- a line for each class of these wagons
abbrev pub class_lines : List WagonRow → List ℕ
class_lines rows = flat_map (class_at rows) (range_with_len 0 (length rows))
