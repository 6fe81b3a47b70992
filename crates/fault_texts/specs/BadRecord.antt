-- What is said of a record that isn't as it must be.
use Rattle.std.specs.Prelude.{ℕ, ◌==◌, if◌then◌else◌, List, ◌++◌, length, Option, Some, None, codes, decimal}
use Rattle.csv.specs.Records.{fields_of}
use Rattle.csv_records.specs.declared.fault_at.RecordAt.{RecordAt}
use Rattle.fault_texts.specs.HeaderText.{header_text}
use Rattle.fault_texts.specs.Shown.{quoted}
use Rattle.fault_texts.specs.Where.{at_field, at_record}

-- the first field that isn't as its rule asks: its name, its text, and what that isn't; of a record without such a field, how
-- many fields it must have and has
abbrev pub unfit_text : (path : List ℕ) → (number : ℕ) → Option (List ℕ × List ℕ × List ℕ) → (must has : ℕ) → List ℕ
unfit_text path number (Some unfit) must has = at_field path number unfit.0 ++ quoted unfit.1 ++ unfit.2
unfit_text path number None must has = at_record path number ++ codes ": it must have " ++ decimal must ++ codes " fields, and has " ++ decimal has

-- the first record must be the header
abbrev pub bad_record_text : (path header : List ℕ) → (must : ℕ) → RecordAt → Option (List ℕ × List ℕ × List ℕ) → List ℕ
bad_record_text path header must at unfit =
    if at.number == 1 then header_text path header (fields_of at.fields) else unfit_text path at.number unfit must (length (fields_of at.fields))
