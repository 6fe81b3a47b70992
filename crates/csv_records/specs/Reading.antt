-- What the records of a file say, a header and those below it, one after the other; or the first fault.
use Rattle.std.specs.Prelude.{◌≡◌, ℕ, ◌+◌, Bool, if◌then◌else◌, nat_lt, List, [], ◌∷◌, ◌++◌, length, Option, Some, None, Result, Ok, Err}
use Rattle.std.specs.Bool.{OnFalse}
use Rattle.csv_records.specs.Fields.{Record}

infixl 10 ◌>>=◌
-- a value, and what follows from it, or the fault that came first
abbrev pub ◌>>=◌ : {A B F : Type 0} → Result A F → (A → Result B F) → Result B F
(Ok x) >>= f = f x
(Err fault) >>= f = Err fault

-- How a value is collected from records: which record is a header, and what one below it says; how many of those there
-- may be; the value of the header alone, and one with what a record says, or why not; why a file is refused at the
-- record of a number (the header is record 1), or for one too many; and which faults are those of memory or the reader.
pub record ReadingRule (A V F : Type 0) : Type 0 where
  pub is_header : Record → Bool
  pub says : Record → Option A
  pub most : ℕ
  pub none_read : V
  pub with_one : V → A → Result V F
  pub bad_record : ℕ → F
  pub too_many : F
  pub is_failure : F → Bool

-- a value and what the record of number n says, if it says anything
abbrev pub with_said : {A V F : Type 0} → ReadingRule A V F → ℕ → V → Option A → Result V F
with_said rule n value None = Err (rule.bad_record n)
with_said rule n value (Some entry) = rule.with_one value entry

-- a value and the record of number n, where that is one of those that there may be
abbrev pub with_record : {A V F : Type 0} → ReadingRule A V F → ℕ → V → Record → Result V F
with_record rule n value fields = if nat_lt (rule.most + 1) n then Err rule.too_many else with_said rule n value (rule.says fields)

-- a value and these records, numbered from n
abbrev pub with_records : {A V F : Type 0} → ReadingRule A V F → ℕ → V → List Record → Result V F
with_records rule n value [] = Ok value
with_records rule n value (fields ∷ records) = with_record rule n value fields >>= λ more. with_records rule (n + 1) more records

-- what the records of a file say, in their order
abbrev pub value_of : {A V F : Type 0} → ReadingRule A V F → List Record → Result V F
value_of rule [] = Err (rule.bad_record 1)
value_of rule (header ∷ records) = if rule.is_header header then with_records rule 2 rule.none_read records else Err (rule.bad_record 1)

-- these records, the header among them, say this value, whatever follows them
abbrev pub SaysSoFar : {A V F : Type 0} → ReadingRule A V F → V → List Record → Type 0
SaysSoFar rule value records = (rest : List Record) → value_of rule (records ++ rest) ≡ with_records rule (length records + 1) value rest

-- what is said is this fault, unless it is one of memory or of the reader, which may come at any record
abbrev pub Stops : {X F : Type 0} → (F → Bool) → F → Result X F → Type 0
Stops is_failure fault said = OnFalse (is_failure fault) (said ≡ Err fault)

-- what was answered is what is said, unless memory or the reader failed
abbrev pub Gives : {X F : Type 0} → (F → Bool) → Result X F → Result X F → Type 0
Gives is_failure (Ok value) said = said ≡ Ok value
Gives is_failure (Err fault) said = Stops is_failure fault said
