-- The number of each reason why a file of places is refused, and what a failure of reading records is called.
use Rattle.std.specs.Prelude.{ℕ}
use Rattle.faults.specs.declared.faults.RecordFault.{RecordFault}
use Rattle.faults.specs.declared.faults.RecordFault.TheVariants as record_fault
use Rattle.place_names.specs.declared.places_fault.PlacesFault.{PlacesFault}
use Rattle.place_names.specs.declared.places_fault.PlacesFault.TheVariants.{OutOfMemory, BadRow, DuplicatePlace, TooManyPlaces, ReadFailed}

abbrev pub places_fault_number : PlacesFault → ℕ
places_fault_number OutOfMemory = 1
places_fault_number (BadRow n) = 41
places_fault_number (DuplicatePlace n) = 41
places_fault_number TooManyPlaces = 42
places_fault_number ReadFailed = 93

abbrev pub places_fault_of : RecordFault → PlacesFault
places_fault_of record_fault.OutOfMemory = OutOfMemory
places_fault_of record_fault.ReadFailed = ReadFailed
