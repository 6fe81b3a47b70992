-- The places that are read record by record are those of the records.
use Rattle.std.proofs.Common.{◌≡◌, ℕ, ◌+◌, List, Option, IfOk, IfSome, Result, Ok, Err, length, refl}
use Rattle.std.proofs.lemmas.Cmp.{nat_eq_equiv, lists_equiv, on_equiv}
use Rattle.csv_records.proofs.Apart.{AreApart-is_read, AreApart-read, TakesEachOnce}
use Rattle.csv_records.specs.Fields.{Record}
use Rattle.csv_records.specs.Files.{AreRecordsOf}
use Rattle.csv_records.specs.Reading.{Gives}
use Rattle.place_names.specs.PlacesOf.{AreReadFrom, ArePlacesOf}
use Rattle.place_names.specs.Reading.{have_one_place, is_failure, places_of, places_rule}
use Rattle.place_names.specs.declared.named_place.NamedPlace.{NamedPlace}
use Rattle.place_names.specs.declared.places_fault.PlacesFault.{PlacesFault}
use Rattle.place_names.specs.declared.places_fault.PlacesFault.TheVariants.{DuplicatePlace}

once : TakesEachOnce places_rule have_one_place
once = record {
  alike = on_equiv (λ (named : NamedPlace). named.place) (lists_equiv nat_eq_equiv);
  begins = refl;
  takes = λ places named new. rw new refl;
  fault = λ places named. DuplicatePlace (length places + 2);
  refuses = λ places named there. rw there refl;
}

-- what is read is those of the records
ArePlacesOf-read : (records : List Record) (places : List NamedPlace) → places_of records ≡ Ok places → ArePlacesOf records places
ArePlacesOf-read records places e =
    let read = AreApart-read places_rule have_one_place once records places e in
    record { file = read.file; no_place_twice = read.apart }

ArePlacesOf-is_read : (records : List Record) (places : List NamedPlace) → ArePlacesOf records places → places_of records ≡ Ok places
ArePlacesOf-is_read records places h = AreApart-is_read places_rule have_one_place once records places h.file h.no_place_twice

exact_from : (records : List Record) (result : Result (List NamedPlace) PlacesFault) → Gives is_failure result (places_of records) → IfOk result (ArePlacesOf records)
exact_from records (Ok places) gives = ArePlacesOf-read records places gives
exact_from records (Err fault) gives = tt

complete_from : (records : List Record) (result : Result (List NamedPlace) PlacesFault) → Gives is_failure result (places_of records)
    → (places : List NamedPlace) → ArePlacesOf records places → Gives is_failure result (Ok places)
complete_from records result gives places h = rw (ArePlacesOf-is_read records places h) at gives

-- what is answered of a file's records is places that are read from them
pub AreReadFrom-gives : (known : Option (List ℕ)) (records : List Record) (result : Result (List NamedPlace) PlacesFault) → IfSome known (λ bytes. AreRecordsOf bytes records)
    → Gives is_failure result (places_of records) → AreReadFrom known result
AreReadFrom-gives known records result all gives =
    record { records = records; all_records = all; first_fault = gives; exact = exact_from records result gives; complete = complete_from records result gives }
