-- The places of a file's records in the subject's own words, apart from how they are read.
use Rattle.std.specs.Prelude.{ℕ, List, Option, IfSome, IfOk, Result, Ok}
use Rattle.std.specs.List.{IsDistinct}
use Rattle.csv_records.specs.Fields.{Record}
use Rattle.csv_records.specs.Files.{AreBelowHeader, AreRecordsOf}
use Rattle.csv_records.specs.Reading.{Gives}
use Rattle.place_names.specs.Limits.{max_named_places}
use Rattle.place_names.specs.Reading.{have_one_place, is_failure, places_of}
use Rattle.place_names.specs.Records.{is_header, place_record}
use Rattle.place_names.specs.declared.named_place.NamedPlace.{NamedPlace}
use Rattle.place_names.specs.declared.places_fault.PlacesFault.{PlacesFault}

-- The records are the header and below it one for each of these places, in their order, and no place stands twice.
pub record ArePlacesOf (records : List Record) (places : List NamedPlace) : Type 0 where
  pub file : AreBelowHeader is_header place_record max_named_places records places
  pub no_place_twice : IsDistinct have_one_place places

-- What reading answers, where the bytes of the file are known or not: it has the records of those bytes; it answers
-- what they say or their first fault, unless memory or the reader failed; places that it answers are theirs; and where
-- they have places, those are answered.
pub record AreReadFrom (known : Option (List ℕ)) (result : Result (List NamedPlace) PlacesFault) : Type 0 where
  pub records : List Record
  pub all_records : IfSome known (λ bytes. AreRecordsOf bytes records)
  pub first_fault : Gives is_failure result (places_of records)
  pub exact : IfOk result (ArePlacesOf records)
  pub complete : (places : List NamedPlace) → ArePlacesOf records places → Gives is_failure result (Ok places)
