-- A place, as a text.
use Rattle.std.specs.Prelude.{ℕ, Bool, ◌&&◌, ◌==◌, if◌then◌else◌, List, length, take, drop, Result, Ok, Err, IsTrue}
use Rattle.std.specs.List.{list_all}
use Rattle.std.specs.Char.{is_ascii_digit, is_ascii_uppercase}
use Rattle.rail_codes.specs.declared.code_fault.CodeFault.{CodeFault}
use Rattle.rail_codes.specs.declared.code_fault.CodeFault.TheVariants.{BadPlace}

-- two letters A-Z and five digits
abbrev pub is_place : List ℕ → Bool
is_place text =
    length text == 7 && list_all is_ascii_uppercase (take 2 text) && list_all is_ascii_digit (drop 2 text)

abbrev pub IsPlace : List ℕ → Type 0
IsPlace text = IsTrue (is_place text)

-- what a text is read as: itself, or the fault
abbrev pub place_read : List ℕ → Result (List ℕ) CodeFault
place_read text = if is_place text then Ok text else Err BadPlace
