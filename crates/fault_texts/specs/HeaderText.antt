-- What is said of a file that doesn't begin with the header that is wanted, with a guess of what it is.
use Rattle.std.specs.Prelude.{ℕ, Bool, ◌||◌, ◌==◌, if◌then◌else◌, nat_eq, List, [], ◌∷◌, ◌++◌, take, codes}
use Rattle.std.specs.Cmp.Lexicographic.{pointwise}
use Rattle.std.specs.List.{list_any}
use Rattle.csv_records.specs.Fields.{Record}
use Rattle.fleet_rows.specs.Records as roster
use Rattle.line_network.specs.Records as network
use Rattle.fault_texts.specs.Shown.{shown}
use Rattle.fault_texts.specs.Where.{at_record}

abbrev pub first_field : Record → List ℕ
first_field [] = []
first_field (field ∷ fields) = field

-- whether a text begins with the byte order mark of UTF-16
abbrev pub is_utf16 : List ℕ → Bool
is_utf16 text = pointwise nat_eq (take 2 text) (255 ∷ 254 ∷ []) || pointwise nat_eq (take 2 text) (254 ∷ 255 ∷ [])

abbrev pub has_semicolon : List ℕ → Bool
has_semicolon text = list_any (λ byte. byte == 59) text

-- what the file may be, by its first record
abbrev pub guess : Record → List ℕ
guess fields =
    if roster.is_header fields then codes "; this is the header of a roster"
    else if network.is_header fields then codes "; this is the header of a network"
    else if is_utf16 (first_field fields) then codes "; the file is UTF-16, and must be UTF-8"
    else if has_semicolon (first_field fields) then codes "; it has semicolons, where commas must stand"
    else []

-- of a file whose first record, which may be missing, isn't the header that is wanted
abbrev pub header_text : (path wanted : List ℕ) → Record → List ℕ
header_text path wanted [] = shown path ++ codes ": the file is empty, and must begin with the header " ++ wanted
header_text path wanted (field ∷ fields) =
    at_record path 1 ++ codes ": the header must be " ++ wanted ++ guess (field ∷ fields)
