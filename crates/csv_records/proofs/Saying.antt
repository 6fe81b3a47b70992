-- What a file's records say by a rule: an entry each, and the value with all entries; from record to record; and the
-- first fault.
use Rattle.std.proofs.Common.{◌≡◌, ◌∙◌, ℕ, ◌+◌, ◌≤◌, Bool, true, false, nat_lt, List, [], ◌∷◌, ◌++◌, length, map, Option, Some, None, Result, Ok, Err, refl, inl, inr, arith, le-ltb, ltb-false, length-append}
use Rattle.std.proofs.lemmas.Bool.{cases_Bool}
use Rattle.std.proofs.lemmas.List.{append-nil, append_assoc}
use Rattle.std.specs.Bool.{OnFalse}
use Rattle.csv_records.specs.Fields.{Record}
use Rattle.csv_records.specs.Files.{AreBelowHeader}
use Rattle.csv_records.specs.Reading.{◌>>=◌, ReadingRule, SaysSoFar, Stops, value_of, with_record, with_records, with_said}

module _ {A V F : Type 0} (rule : ReadingRule A V F) where
  -- a value and these entries, one after the other
  abbrev pub with_all : V → List A → Result V F
  with_all value [] = Ok value
  with_all value (entry ∷ entries) = rule.with_one value entry >>= λ more. with_all more entries

  -- what a record said that was no fault
  record SaysOne (n : ℕ) (value : V) (fields : Record) (more : V) : Type 0 where
    entry : A
    is_said : rule.says fields ≡ Some entry
    few_records : n ≤ rule.most + 1
    taken : rule.with_one value entry ≡ Ok more

  one_said : (n : ℕ) (value : V) (fields : Record) (more : V) (said : Option A) → rule.says fields ≡ said → n ≤ rule.most + 1 → with_said rule n value said ≡ Ok more → SaysOne n value fields more
  one_said n value fields more None is few e = cc e
  one_said n value fields more (Some entry) is few e = record { entry = entry; is_said = is; few_records = few; taken = e }

  says_one : (n : ℕ) (value : V) (fields : Record) (more : V) → with_record rule n value fields ≡ Ok more → SaysOne n value fields more
  says_one n value fields more e = elim (cases_Bool (nat_lt (rule.most + 1) n)) [
    | inl past ↦ cc (rw past at e)
    | inr within ↦ one_said n value fields more (rule.says fields) refl (ltb-false (rule.most + 1) n within) (rw within at e)
  ]

  -- From this value on, the records say the value at the end.
  record SaysFrom (n : ℕ) (value : V) (records : List Record) (end : V) : Type 0 where
    entries : List A
    each_read : map rule.says records ≡ map Some entries
    few_records : length records + n ≤ rule.most + 2
    taken : with_all value entries ≡ Ok end

  says_step : (n : ℕ) (value : V) (fields : Record) (records : List Record) (end : V) (step : Result V F) → with_record rule n value fields ≡ step
      → ((more : V) → n ≤ rule.most + 1 → with_records rule (n + 1) more records ≡ Ok end → SaysFrom (n + 1) more records end)
      → (step >>= λ more. with_records rule (n + 1) more records) ≡ Ok end → SaysFrom n value (fields ∷ records) end
  says_step n value fields records end (Err fault) is others e = cc e
  says_step n value fields records end (Ok more) is others e =
      let one = says_one n value fields more is in
      let then = others more one.few_records e in
      record {
        entries = one.entry ∷ then.entries;
        each_read = rw (one.is_said, then.each_read) refl;
        few_records = omega (arith, then.few_records);
        taken = rw one.taken then.taken;
      }

  says_from : (n : ℕ) (value : V) (records : List Record) (end : V) → n ≤ rule.most + 2 → with_records rule n value records ≡ Ok end → SaysFrom n value records end
  says_from n value [] end few e = record { entries = []; each_read = refl; few_records = omega arith; taken = e }
  says_from n value (fields ∷ records) end few e =
      says_step n value fields records end (with_record rule n value fields) refl (λ more within rest. says_from (n + 1) more records end (omega arith) rest) e

  -- The records are a header and below it one of each entry, and the value is that with all of them.
  pub record IsCollected (records : List Record) (end : V) : Type 0 where
    pub entries : List A
    pub file : AreBelowHeader rule.is_header rule.says rule.most records entries
    pub taken : with_all rule.none_read entries ≡ Ok end

  pub IsCollected-read : (records : List Record) (end : V) → value_of rule records ≡ Ok end → IsCollected records end
  IsCollected-read [] end e = cc e
  IsCollected-read (header ∷ below) end e = elim (cases_Bool (rule.is_header header)) [
    | inl right ↦
        let says = says_from 2 rule.none_read below end (omega arith) (rw right at e) in
        record {
          entries = says.entries;
          file = record {
            header = header;
            below = below;
            header_first = refl;
            header_right = right;
            each_read = says.each_read;
            few_records = omega (arith, says.few_records);
          };
          taken = says.taken;
        }
    | inr wrong ↦ cc (rw wrong at e)
  ]

  -- and records that are so are read as that value
  read_step : (n : ℕ) (value : V) (fields : Record) (records : List Record) (entry : A) (entries : List A) (end : V) (step : Result V F) → rule.says fields ≡ Some entry → n ≤ rule.most + 1
      → rule.with_one value entry ≡ step → ((more : V) → with_all more entries ≡ Ok end → with_records rule (n + 1) more records ≡ Ok end)
      → (step >>= λ more. with_all more entries) ≡ Ok end → with_records rule n value (fields ∷ records) ≡ Ok end
  read_step n value fields records entry entries end (Err fault) said few is others e = cc e
  read_step n value fields records entry entries end (Ok more) said few is others e =
      rw (le-ltb (rule.most + 1) n few, said, is) (others more e)

  records_are_read : (n : ℕ) (value : V) (records : List Record) (entries : List A) (end : V) → map rule.says records ≡ map Some entries → length records + n ≤ rule.most + 2
      → with_all value entries ≡ Ok end → with_records rule n value records ≡ Ok end
  records_are_read n value [] [] end each few e = e
  records_are_read n value [] (entry ∷ entries) end each few e = cc each
  records_are_read n value (fields ∷ records) [] end each few e = cc each
  records_are_read n value (fields ∷ records) (entry ∷ entries) end each few e =
      let said : rule.says fields ≡ Some entry = cc each in
      let others : map rule.says records ≡ map Some entries = cc each in
      read_step n value fields records entry entries end (rule.with_one value entry) said (omega arith) refl
      (λ more rest. records_are_read (n + 1) more records entries end others (omega arith) rest) e

  pub IsCollected-is_read : (records : List Record) (end : V) → IsCollected records end → value_of rule records ≡ Ok end
  IsCollected-is_read records end h =
      rw (h.file.header_first, h.file.header_right) (records_are_read 2 rule.none_read h.file.below h.entries end h.file.each_read (omega (arith, h.file.few_records)) h.taken)

  -- ---- from record to record

  -- a record that says an entry
  pub with_record-known : (n : ℕ) (value : V) (fields : Record) (entry : A) → n ≤ rule.most + 1 → rule.says fields ≡ Some entry → with_record rule n value fields ≡ rule.with_one value entry
  with_record-known n value fields entry few said = rw (le-ltb (rule.most + 1) n few, said) refl

  -- one record more
  pub SaysSoFar-more : (value more : V) (done : List Record) (fields : Record) → SaysSoFar rule value done → with_record rule (length done + 1) value fields ≡ Ok more
      → SaysSoFar rule more (done ++ fields ∷ [])
  SaysSoFar-more value more done fields h read =
      let long : length (done ++ fields ∷ []) ≡ length done + 1 = omega (arith, length-append done (fields ∷ [])) in
      λ rest. rw (append_assoc, long) (h (fields ∷ rest) ∙ rw read refl)

  -- all records
  pub SaysSoFar-end : (value : V) (records : List Record) → SaysSoFar rule value records → value_of rule records ≡ Ok value
  SaysSoFar-end value records h = let all : value_of rule (records ++ []) ≡ Ok value = h [] in rw append-nil at all

  -- a fault of a record is the first
  stops_at : (failure : Bool) (n : ℕ) (value : V) (fields : Record) (rest : List Record) (fault : F) → OnFalse failure (with_record rule n value fields ≡ Err fault)
      → OnFalse failure (with_records rule n value (fields ∷ rest) ≡ Err fault)
  stops_at true n value fields rest fault h = tt
  stops_at false n value fields rest fault h = rw h refl

  stops_along : (failure : Bool) (said more : Result V F) (fault : F) → said ≡ more → OnFalse failure (more ≡ Err fault) → OnFalse failure (said ≡ Err fault)
  stops_along true said more fault e h = tt
  stops_along false said more fault e h = e ∙ h

  pub SaysSoFar-stops : (value : V) (done : List Record) (fields : Record) (rest : List Record) (fault : F) → SaysSoFar rule value done
      → Stops rule.is_failure fault (with_record rule (length done + 1) value fields) → Stops rule.is_failure fault (value_of rule (done ++ fields ∷ rest))
  SaysSoFar-stops value done fields rest fault h stops =
      stops_along (rule.is_failure fault) _ _ fault (h (fields ∷ rest)) (stops_at (rule.is_failure fault) (length done + 1) value fields rest fault stops)
