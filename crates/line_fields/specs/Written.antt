-- What is written as JSON: lists, whole numbers, and pairs of a wagon and an order.
use Rattle.std.specs.Prelude.{ℕ, List, map, Option, Some, None}
use Rattle.serde_json.specs.Data.{Data, null, number, unsigned, string, array, no_items, item}
use Rattle.serde_json.specs.View.{items_of}

-- a list, each item written so
abbrev pub list_data : {A : Type 0} → (A → Data) → List A → Data
list_data write xs = array (items_of (map write xs))

abbrev pub number_data : ℕ → Data
number_data n = number (unsigned n)

-- a number, or null for none
abbrev pub number_or_null : Option ℕ → Data
number_or_null None = null
number_or_null (Some n) = number_data n

-- a wagon and an order
abbrev pub pair_data : List ℕ × List ℕ → Data
pair_data pair = array (item (string pair.0) (item (string pair.1) no_items))
