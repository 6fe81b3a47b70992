-- What one more record of a file makes of a value: another value, or a refusal, whatever records follow.
use Rattle.std.specs.Prelude.{◌≡◌, ◌+◌, ◌++◌, ◌∷◌, ℕ, List, [], length}
use Rattle.csv_records.specs.Fields.{Record}

-- a value of the records before the record of this number, and the value with that record
abbrev pub MakesNext : {S : Type 0} → (made_of : S → List Record → Type 0) → S → (number : ℕ) → Record → S → Type 0
MakesNext made_of before number fields made =
    (done : List Record) → made_of before done → length done + 1 ≡ number → made_of made (done ++ fields ∷ [])

-- refused at the record of this number, behind those of which a value is made
abbrev pub RefusesNext : {S F : Type 0} → (made_of : S → List Record → Type 0) → (refuses : F → List Record → Type 0) → S → (number : ℕ) → Record → F → Type 0
RefusesNext made_of refuses made number fields fault =
    (done rest : List Record) → made_of made done → length done + 1 ≡ number → refuses fault (done ++ fields ∷ rest)

-- refused at the record past the most that there may be below the header
abbrev pub RefusesPast : {S F : Type 0} → (made_of : S → List Record → Type 0) → (refuses : F → List Record → Type 0) → (most : ℕ) → F → Type 0
RefusesPast {S} made_of refuses most fault =
    (made : S) (done rest : List Record) (past : Record) → made_of made done → length done ≡ most + 1 → refuses fault (done ++ past ∷ rest)
