-- How a reader of records is asked for one after another: what it has left, and how often it was asked.
use Rattle.std.specs.Prelude.{◌≡◌, ℕ, ◌+◌, ◌≤◌, Bool, true, IfSome, List, Option, Result, Ok, Err}
use Rattle.csv.specs.Reading.{AreRecords, ReadRecord, Ready, default_config, has_failed, is_flexible, reader_config, reader_state, reader_trim, source_of}
use Rattle.csv.specs.declared.reader.Reader.{Reader}
use Rattle.csv.specs.declared.reader.Trim.TheVariants as trim
use Rattle.csv_records.specs.Fields.{Record}

-- a reader with the default settings, but that records may be of any length, whose next read gives a record
pub record IsSetUp {R : Type 0} (reader : Reader R) : Type 0 where
  pub plain : reader_trim reader ≡ trim.None
  pub ready : Ready reader
  pub settings : reader_config reader ≡ default_config
  pub flexible : is_flexible reader ≡ true

-- the records that a reader has left, where the bytes that it has left are known
abbrev pub AreLeft : {R : Type 0} → (R → Option (List ℕ)) → Reader R → List Record → Type 0
AreLeft remaining reader records = IfSome (source_of remaining reader) (λ bytes. AreRecords default_config (reader_state reader) bytes records)

-- one request for a record: it was answered, or the reader failed
pub data IsRequest {R : Type 0} (remaining : R → Option (List ℕ)) (before after : Reader R) : Type 0 where
  answered : (found : Bool) (fields : List (List ℕ)) → ReadRecord remaining before after found fields → IsRequest remaining before after
  failed : has_failed after ≡ true → IsRequest remaining before after

-- so many requests, one after another
pub data AreRequests {R : Type 0} (remaining : R → Option (List ℕ)) (before : Reader R) : ℕ → Reader R → Type 0 where
  none_yet : AreRequests remaining before 0 before
  one_more : (count : ℕ) (between after : Reader R) → AreRequests remaining before count between → IsRequest remaining between after → AreRequests remaining before (count + 1) after

-- at most so many
pub record AsksAtMost {R : Type 0} (remaining : R → Option (List ℕ)) (before : Reader R) (most : ℕ) (after : Reader R) : Type 0 where
  pub count : ℕ
  pub few : count ≤ most
  pub requests : AreRequests remaining before count after

-- what was made of these records, or why they were refused
abbrev pub IsOutcome : {T F : Type 0} → (T → List Record → Type 0) → (F → List Record → Type 0) → Result T F → List Record → Type 0
IsOutcome made_of refuses (Ok made) records = made_of made records
IsOutcome made_of refuses (Err fault) records = refuses fault records
