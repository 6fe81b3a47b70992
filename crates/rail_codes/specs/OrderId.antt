-- An order's name, as a text.
use Rattle.std.specs.Prelude.{ℕ, Bool, ◌&&◌, ◌||◌, ◌==◌, nat_le, if◌then◌else◌, List, length, Result, Ok, Err, IsTrue}
use Rattle.std.specs.List.{list_all}
use Rattle.std.specs.Char.{is_ascii_digit, is_ascii_uppercase}
use Rattle.rail_codes.specs.declared.code_fault.CodeFault.{CodeFault}
use Rattle.rail_codes.specs.declared.code_fault.CodeFault.TheVariants.{BadOrderId}

-- A-Z, 0-9 or a hyphen
abbrev pub is_order_character : ℕ → Bool
is_order_character c = is_ascii_uppercase c || is_ascii_digit c || c == 45

-- 1 to 16 of these characters
abbrev pub is_order_id : List ℕ → Bool
is_order_id text = nat_le 1 (length text) && nat_le (length text) 16 && list_all is_order_character text

abbrev pub IsOrderId : List ℕ → Type 0
IsOrderId text = IsTrue (is_order_id text)

-- what a text is read as: itself, or the fault
abbrev pub order_id_of : List ℕ → Result (List ℕ) CodeFault
order_id_of text = if is_order_id text then Ok text else Err BadOrderId
