-- The records of a file of CSV.
use Rattle.std.specs.Prelude.{◌≡◌, ℕ, ◌≤◌, Bool, IsTrue, List, ◌∷◌, length, map, Option, Some}
use Rattle.csv.specs.Reading.{AreRecords, default_config, strip_bom}
use Rattle.csv.specs.declared.parser.State.TheVariants as st
use Rattle.csv_records.specs.Fields.{Record}

-- the records of a file of these bytes are those that csv gives with its default settings and no header row
abbrev pub AreRecordsOf : List ℕ → List Record → Type 0
AreRecordsOf bytes records = AreRecords default_config st.StartRecord (strip_bom bytes) records

-- The records of a file are a header and below it at most so many records, each of which says one of these entries.
pub record AreBelowHeader {A : Type 0} (is_header : Record → Bool) (says : Record → Option A) (most : ℕ) (records : List Record) (entries : List A) : Type 0 where
  pub header : Record
  pub below : List Record
  pub header_first : records ≡ header ∷ below
  pub header_right : IsTrue (is_header header)
  pub each_read : map says below ≡ map Some entries
  pub few_records : length below ≤ most
