-- What is said of a file that is no network.
use Rattle.std.specs.Prelude.{ℕ, List, ◌++◌, Option, option_map, codes}
use Rattle.csv.specs.Records.{fields_of}
use Rattle.csv_records.specs.Fields.{Record}
use Rattle.csv_records.specs.declared.fault_at.FaultAt.{FaultAt}
use Rattle.csv_records.specs.declared.fault_at.RecordAt.{RecordAt}
use Rattle.faults.specs.declared.faults.NetworkFault.{NetworkFault}
use Rattle.faults.specs.declared.faults.NetworkFault.TheVariants.{OutOfMemory, BadRow, TooManyPlaces, TooManyLines, ReadFailed}
use Rattle.line_network.specs.Unfit.{field_name, first_unfit}
use Rattle.line_network.specs.declared.line_field.LineField.{LineField}
use Rattle.line_network.specs.declared.line_field.LineField.TheVariants.{From, To, Km, Minutes, Way}
use Rattle.fault_texts.specs.BadRecord.{bad_record_text}
use Rattle.fault_texts.specs.Shown.{shown}
use Rattle.fault_texts.specs.Where.{at_record}

abbrev pub network_header : List ℕ
network_header = codes "from,to,km,minutes,way"

-- what a field's text isn't
abbrev pub complaint : LineField → List ℕ
complaint From = codes " is no place: two letters A-Z and five digits"
complaint To = codes " is no place: two letters A-Z and five digits"
complaint Km = codes " is no whole number of km from 1 to 10,000"
complaint Minutes = codes " is no whole number of minutes from 1 to 10,000"
complaint Way = codes " is neither one nor both"

-- the first field that isn't as its rule asks: its name, its text, and what that isn't
abbrev pub unfit_in : Record → Option (List ℕ × List ℕ × List ℕ)
unfit_in fields = option_map (λ (unfit : LineField × List ℕ). (field_name unfit.0, unfit.1, complaint unfit.0)) (first_unfit fields)

-- by the record at which reading stopped
abbrev pub network_fault_text : (path : List ℕ) → NetworkFault → RecordAt → List ℕ
network_fault_text path OutOfMemory at = codes "out of memory"
network_fault_text path (BadRow n) at = bad_record_text path network_header 5 at (unfit_in (fields_of at.fields))
network_fault_text path TooManyPlaces at = at_record path at.number ++ codes ": with it there are over 2,000 places, the most that a network may have"
network_fault_text path TooManyLines at = at_record path at.number ++ codes ": a network has at most 20,000 records below its header"
network_fault_text path ReadFailed at = shown path ++ codes ": it couldn't be read"

-- the same by the refusal
abbrev pub network_text : (path : List ℕ) → FaultAt NetworkFault → List ℕ
network_text path refusal = network_fault_text path refusal.fault refusal.at
