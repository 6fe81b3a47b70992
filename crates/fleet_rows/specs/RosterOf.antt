-- The roster of a file's records in the subject's own words, apart from how it is read.
use Rattle.std.specs.Prelude.{◌≡◌, ℕ, List, Option, IfSome, IfOk, IsTrue, Result, Ok, Err}
use Rattle.std.specs.List.{IsDistinct}
use Rattle.std.specs.List.Sorted.{IsPermutation}
use Rattle.csv_records.specs.Fields.{Record}
use Rattle.csv_records.specs.Files.{AreBelowHeader, AreRecordsOf}
use Rattle.wagons_and_orders.specs.declared.wagon_row.WagonRow.{WagonRow}
use Rattle.fleet_rows.specs.Reading.{Gives, is_failure, rows_of}
use Rattle.fleet_rows.specs.Records.{is_header, wagon_record}
use Rattle.fleet_rows.specs.Roster.{IsRoster}
use Rattle.fleet_rows.specs.Kept.{max_roster_wagons}
use Rattle.fleet_rows.specs.SameWagons.{have_one_number}
use Rattle.faults.specs.declared.faults.RosterFault.{RosterFault}

-- The records are the header and below it one for each wagon, in any order, and the roster has exactly their rows,
-- ascending by number.
pub record IsRosterOf (records : List Record) (roster : List WagonRow) : Type 0 where
  pub rows : List WagonRow
  pub file : AreBelowHeader is_header wagon_record max_roster_wagons records rows
  pub no_wagon_twice : IsDistinct have_one_number rows
  pub same_rows : IsPermutation rows roster
  pub in_order : IsRoster roster

-- this roster was answered, unless memory or the reader failed
abbrev pub IsAnswered : List WagonRow → Result (List WagonRow) RosterFault → Type 0
IsAnswered roster (Ok answer) = answer ≡ roster
IsAnswered roster (Err fault) = IsTrue (is_failure fault)

-- What reading answers, where the bytes of the file are known or not: it has the records of those bytes; it answers
-- what they say or their first fault, unless memory or the reader failed; a roster that it answers is theirs; and
-- where they have a roster, that is answered.
pub record IsReadFrom (known : Option (List ℕ)) (result : Result (List WagonRow) RosterFault) : Type 0 where
  pub records : List Record
  pub all_records : IfSome known (λ bytes. AreRecordsOf bytes records)
  pub first_fault : Gives result (rows_of records)
  pub exact : IfOk result (IsRosterOf records)
  pub complete : (roster : List WagonRow) → IsRosterOf records roster → IsAnswered roster result
