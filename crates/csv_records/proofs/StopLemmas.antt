-- At which record a file's reading stopped, by what other words say of its values and faults.
use Rattle.std.proofs.Common.{◌≡◌, ◌⊎◌, List, [], ◌++◌, ◌∷◌, inl, inr}
use Rattle.csv.specs.Records.{fields_of}
use Rattle.csv_records.specs.Fields.{Record}
use Rattle.csv_records.specs.Stopping.{IsRefusedAt, StopsAt, failed, no_record, refused_at}
use Rattle.csv_records.specs.declared.fault_at.RecordAt.{RecordAt}
use Rattle.faults.specs.declared.faults.RecordFault.{RecordFault}

module _ {S V F G : Type 0} (made_of : S → List Record → Type 0) (is_value : V → List Record → Type 0) (refuses : F → List Record → Type 0) (is_refused : G → List Record → Type 0) (fault : F) (said : G)
    (values : (made : S) (records : List Record) → made_of made records → (value : V) × is_value value records)
    (faults : (records : List Record) → refuses fault records → is_refused said records) where
  read_before : (before : List Record) → ((before ≡ []) ⊎ ((made : S) × made_of made before)) → (before ≡ []) ⊎ ((value : V) × is_value value before)
  read_before before (inl none) = inl none
  read_before before (inr (made, is)) = inr (values made before is)

  pub IsRefusedAt-said : (all : List Record) (at : RecordAt) → IsRefusedAt made_of refuses all fault at → IsRefusedAt is_value is_refused all said at
  IsRefusedAt-said all at h = record {
    before = h.before;
    after = h.after;
    stands = h.stands;
    numbered = h.numbered;
    read = read_before h.before h.read;
    refused = λ rest. faults (h.before ++ fields_of at.fields ∷ rest) (h.refused rest);
  }

  pub StopsAt-said : (gives : RecordFault → F → Type 0) (says : RecordFault → G → Type 0) (all : List Record) (at : RecordAt) → ((failure : RecordFault) → gives failure fault → says failure said)
      → StopsAt gives made_of refuses all fault at → StopsAt says is_value is_refused all said at
  StopsAt-said gives says all at same (failed failure is) = failed failure (same failure is)
  StopsAt-said gives says all at same (no_record none number fields) = no_record none number fields
  StopsAt-said gives says all at same (refused_at h) = refused_at (IsRefusedAt-said all at h)
