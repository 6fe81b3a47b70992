-- Where something is wrong: a file as it was named, a record and a field of it, or a line.
use Rattle.std.specs.Prelude.{ℕ, List, ◌++◌, codes, decimal}
use Rattle.fault_texts.specs.Shown.{shown}

abbrev pub at_record : (path : List ℕ) → (number : ℕ) → List ℕ
at_record path number = shown path ++ codes ", record " ++ decimal number

abbrev pub at_field : (path : List ℕ) → (number : ℕ) → (name : List ℕ) → List ℕ
at_field path number name = at_record path number ++ codes ", " ++ name ++ codes ": "

abbrev pub at_line : (path : List ℕ) → (number : ℕ) → List ℕ
at_line path number = shown path ++ codes ", line " ++ decimal number

-- a file of which the system said something
abbrev pub file_text : (path said : List ℕ) → List ℕ
file_text path said = shown path ++ codes ": " ++ said
