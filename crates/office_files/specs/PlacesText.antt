-- What is said of a file that isn't read as names of places.
use Rattle.std.specs.Prelude.{ℕ, ◌==◌, if◌then◌else◌, List, ◌++◌, codes, decimal}
use Rattle.fault_texts.specs.Where.{file_text}
use Rattle.place_names.specs.declared.places_fault.PlacesFault.{PlacesFault}
use Rattle.place_names.specs.declared.places_fault.PlacesFault.TheVariants.{OutOfMemory, BadRow, DuplicatePlace, TooManyPlaces, ReadFailed}

-- a record that is no header, where it must be one, or that names no place
abbrev pub bad_row_said : (n : ℕ) → List ℕ
bad_row_said n =
    if n == 1 then codes "record 1 isn't the header place,name,x,y"
    else codes "record " ++ decimal n ++ codes " isn't a place, a name of at most 60 bytes, and two decimal numbers or none"

-- the record, and what was expected
abbrev pub places_said : PlacesFault → List ℕ
places_said OutOfMemory = codes "out of memory"
places_said (BadRow n) = bad_row_said n
places_said (DuplicatePlace n) = codes "record " ++ decimal n ++ codes " is of a place that an earlier record names"
places_said TooManyPlaces = codes "it names over 2,000 places"
places_said ReadFailed = codes "it couldn't be read"

abbrev pub places_text : (path : List ℕ) → PlacesFault → List ℕ
places_text path fault = file_text path (places_said fault)
