-- What one record more says of the places, and what is answered where one is refused.
use Rattle.std.proofs.Common.{◌≡◌, ◌∙◌, ℕ, ◌+◌, ◌≤◌, true, false, List, [], ◌∷◌, ◌++◌, length, Some, Result, Ok, Err, IfOk, ap, sym, arith, length-append}
use Rattle.csv_records.proofs.Saying.{SaysSoFar-end, SaysSoFar-more, SaysSoFar-stops, with_record-known}
use Rattle.csv_records.specs.Fields.{Record}
use Rattle.csv_records.specs.Reading.{Gives, Stops, with_record}
use Rattle.csv_records.specs.Requests.{IsOutcome}
use Rattle.place_names.specs.Limits.{max_named_places}
use Rattle.place_names.specs.Reading.{has_place, is_failure, places_of, places_rule}
use Rattle.place_names.specs.Records.{place_record}
use Rattle.place_names.specs.inner.Reading.{AreReadSoFar}
use Rattle.place_names.specs.declared.named_place.NamedPlace.{NamedPlace}
use Rattle.place_names.specs.declared.places_fault.PlacesFault.{PlacesFault}
use Rattle.place_names.specs.declared.places_fault.PlacesFault.TheVariants.{DuplicatePlace}

-- one record more, of a place that is new
pub AreReadSoFar-more : (number : ℕ) (places more : List NamedPlace) (done : List Record) (fields : Record) (named : NamedPlace) → AreReadSoFar places done → length done + 1 ≡ number
    → number ≤ max_named_places + 1 → place_record fields ≡ Some named → has_place places named.place ≡ false → more ≡ places ++ named ∷ []
    → AreReadSoFar more (done ++ fields ∷ [])
AreReadSoFar-more number places more done fields named h counted few says new added =
    let read : with_record places_rule (length done + 1) places fields ≡ Ok more = with_record-known places_rule (length done + 1) places fields named (omega arith) says ∙ rw new (ap Ok (sym added)) in
    record {
      so_far = SaysSoFar-more places_rule places more done fields h.so_far read;
      counted = rw added (omega (arith, h.counted, length-append done (fields ∷ []), length-append places (named ∷ [])));
    }

pub made_from : (number : ℕ) (places : List NamedPlace) (fields : Record) (named : NamedPlace) (result : Result (List NamedPlace) PlacesFault) → number ≤ max_named_places + 1
    → place_record fields ≡ Some named → has_place places named.place ≡ false → IfOk result (λ more. more ≡ places ++ named ∷ [])
    → IfOk result (λ made. (done : List Record) → AreReadSoFar places done → length done + 1 ≡ number → AreReadSoFar made (done ++ fields ∷ []))
made_from number places fields named (Ok more) few says new added = λ done h counted. AreReadSoFar-more number places more done fields named h counted few says new added
made_from number places fields named (Err fault) few says new added = tt

-- a record of a place that an earlier one named
pub doubled_from : (number : ℕ) (places : List NamedPlace) (fields : Record) (named : NamedPlace) → number ≤ max_named_places + 1 → place_record fields ≡ Some named
    → has_place places named.place ≡ true → (done rest : List Record) → AreReadSoFar places done → length done + 1 ≡ number
    → Stops is_failure (DuplicatePlace number) (places_of (done ++ fields ∷ rest))
doubled_from number places fields named few says there done rest h counted =
    let same : length places + 2 ≡ number = omega (arith, h.counted, counted) in
    let first : with_record places_rule (length done + 1) places fields ≡ Err (DuplicatePlace number) =
    with_record-known places_rule (length done + 1) places fields named (omega arith) says ∙ rw there (ap (λ n. Err (DuplicatePlace n)) same) in
    SaysSoFar-stops places_rule places done fields rest (DuplicatePlace number) h.so_far first

-- what reading answers gives what the records say
pub gives_from : (result : Result (List NamedPlace) PlacesFault) (records : List Record) → IsOutcome AreReadSoFar (λ fault records. Stops is_failure fault (places_of records)) result records
    → Gives is_failure result (places_of records)
gives_from (Ok places) records h = SaysSoFar-end places_rule places records h.so_far
gives_from (Err fault) records h = h
