-- Names on a map.
use Rattle.std.specs.Prelude.{ℕ, Bool, not, ◌||◌, ◌==◌, List, IsTrue}
use Rattle.std.specs.List.{list_all}
use Rattle.rail_codes.specs.ClassCode.{IsClassCode}
use Rattle.rail_codes.specs.OrderId.{IsOrderId}
use Rattle.rail_codes.specs.Place.{IsPlace}
use Rattle.office_map.specs.Names.{escaped}

-- neither a quote, a backslash nor an ampersand, nor a bracket (less than, greater than)
abbrev pub is_plain : ℕ → Bool
is_plain c = not (c == 34 || c == 92 || c == 38 || c == 60 || c == 62)

-- a text of such characters can't end the quotes or the cell that it stands in
abbrev pub IsPlain : List ℕ → Type 0
IsPlain text = IsTrue (list_all is_plain text)

-- neither of the two brackets
abbrev pub is_no_bracket : ℕ → Bool
is_no_bracket c = not (c == 60 || c == 62)

-- Each place, each class and each order's name is such a text. A place's name may have any characters, but where it stands in
-- a cell none of them is a bracket, so it opens and closes no tag.
pub record NamesStayInQuotes : Type 0 where
  pub places : (place : List ℕ) → IsPlace place → IsPlain place
  pub classes : (class : List ℕ) → IsClassCode class → IsPlain class
  pub orders : (id : List ℕ) → IsOrderId id → IsPlain id
  pub names : (name : List ℕ) → IsTrue (list_all is_no_bracket (escaped name))
