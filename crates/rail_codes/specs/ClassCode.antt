-- A wagon's class, as a text.
use Rattle.std.specs.Prelude.{ℕ, Bool, ◌&&◌, nat_le, if◌then◌else◌, List, length, Result, Ok, Err, IsTrue}
use Rattle.std.specs.List.{list_all}
use Rattle.std.specs.Char.{is_ascii_alphabetic}
use Rattle.rail_codes.specs.declared.code_fault.CodeFault.{CodeFault}
use Rattle.rail_codes.specs.declared.code_fault.CodeFault.TheVariants.{BadClass}

-- 1 to 12 ASCII letters
abbrev pub is_class_code : List ℕ → Bool
is_class_code text =
    nat_le 1 (length text) && nat_le (length text) 12 && list_all is_ascii_alphabetic text

abbrev pub IsClassCode : List ℕ → Type 0
IsClassCode text = IsTrue (is_class_code text)

-- what a text is read as: itself, or the fault
abbrev pub class_code_of : List ℕ → Result (List ℕ) CodeFault
class_code_of text = if is_class_code text then Ok text else Err BadClass
