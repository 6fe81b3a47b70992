-- At which record of a file its reading stopped.
use Rattle.std.specs.Prelude.{◌≡◌, ◌⊎◌, ◌+◌, ◌++◌, ◌∷◌, [], IfErr, List, Result, length}
use Rattle.csv.specs.Records.{fields_of}
use Rattle.csv_records.specs.Fields.{Record}
use Rattle.csv_records.specs.Requests.{IsOutcome}
use Rattle.csv_records.specs.declared.fault_at.RecordAt.{RecordAt}
use Rattle.faults.specs.declared.faults.RecordFault.{RecordFault}

-- The records before one were read, if it isn't the first, and a file with it behind them is refused, whatever follows.
pub record IsRefusedAt {S F : Type 0} (made_of : S → List Record → Type 0) (refuses : F → List Record → Type 0) (all : List Record) (fault : F) (at : RecordAt) : Type 0 where
  pub before : List Record
  pub after : List Record
  pub stands : all ≡ before ++ fields_of at.fields ∷ after
  pub numbered : at.number ≡ length before + 1
  pub read : (before ≡ []) ⊎ ((made : S) × made_of made before)
  pub refused : (rest : List Record) → refuses fault (before ++ fields_of at.fields ∷ rest)

-- why the reading of a file stopped: memory or the reader failed; the file has no record; or this one is refused
pub data StopsAt {S F : Type 0} (gives : RecordFault → F → Type 0) (made_of : S → List Record → Type 0) (refuses : F → List Record → Type 0) (all : List Record) (fault : F) (at : RecordAt) : Type 0 where
  failed : (failure : RecordFault) → gives failure fault → StopsAt gives made_of refuses all fault at
  no_record : all ≡ [] → at.number ≡ 1 → fields_of at.fields ≡ [] → StopsAt gives made_of refuses all fault at
  refused_at : IsRefusedAt made_of refuses all fault at → StopsAt gives made_of refuses all fault at

-- What collecting the records that are left answers: a value that is made of them; or why they are refused, with the
-- record at which that was found. An answer's fault and record are these parts of it.
abbrev pub IsReadOff : {S E F : Type 0} → (gives : RecordFault → F → Type 0) → (made_of : S → List Record → Type 0) → (refuses : F → List Record → Type 0)
    → (are_left : List Record → Type 0) → (fault_of : E → F) → (at_of : E → RecordAt) → Result S E → Type 0
IsReadOff gives made_of refuses are_left fault_of at_of result = (all : List Record) × are_left all × IsOutcome made_of (λ stop. refuses (fault_of stop)) result all
    × IfErr result (λ stop. StopsAt gives made_of refuses all (fault_of stop) (at_of stop))
