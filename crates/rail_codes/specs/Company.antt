-- A company's code, as a text.
use Rattle.std.specs.Prelude.{ℕ, Bool, ◌&&◌, ◌||◌, ◌==◌, if◌then◌else◌, List, length, Result, Ok, Err, IsTrue}
use Rattle.std.specs.List.{list_all}
use Rattle.std.specs.Char.{is_ascii_digit, is_ascii_uppercase}
use Rattle.rail_codes.specs.declared.code_fault.CodeFault.{CodeFault}
use Rattle.rail_codes.specs.declared.code_fault.CodeFault.TheVariants.{BadCompany}

-- 0-9 or A-Z
abbrev pub is_company_character : ℕ → Bool
is_company_character c = is_ascii_digit c || is_ascii_uppercase c

-- four of these characters
abbrev pub is_company : List ℕ → Bool
is_company text = length text == 4 && list_all is_company_character text

abbrev pub IsCompany : List ℕ → Type 0
IsCompany text = IsTrue (is_company text)

-- what a text is read as: itself, or the fault
abbrev pub company_of : List ℕ → Result (List ℕ) CodeFault
company_of text = if is_company text then Ok text else Err BadCompany
