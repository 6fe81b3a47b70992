-- The rows that are read record by record are those of the records, and their roster is the only one.
use Rattle.std.proofs.Common.{◌≡◌, ℕ, List, Option, IfErr, IfOk, IfSome, IsTrue, Result, Ok, Err, refl, subst}
use Rattle.std.proofs.lemmas.Cmp.{nat_eq_equiv, lists_equiv, on_equiv}
use Rattle.std.proofs.lemmas.List.Sorted.{IsPermutation-sym, IsPermutation-trans}
use Rattle.std.specs.List.Sorted.{IsPermutation}
use Rattle.csv_records.proofs.Apart.{AreApart-is_read, AreApart-read, TakesEachOnce}
use Rattle.csv_records.specs.Fields.{Record}
use Rattle.csv_records.specs.Files.{AreBelowHeader, AreRecordsOf}
use Rattle.csv_records.specs.Reading.{Stops}
use Rattle.csv_records.specs.Stopping.{StopsAt}
use Rattle.csv_records.specs.declared.fault_at.FaultAt.{FaultAt}
use Rattle.fleet_rows.specs.Stops.{AreRowsOf, IsFailureOf, IsReadTo, Refuses, plain}
use Rattle.fleet_rows.specs.declared.roster_refusal.RosterRefusal.{RosterRefusal}
use Rattle.wagons_and_orders.specs.declared.wagon_row.WagonRow.{WagonRow}
use Rattle.fleet_rows.proofs.RosterLemmas.{by_number_total, same_order}
use Rattle.fleet_rows.specs.Reading.{Gives, is_failure, roster_rule, rows_of}
use Rattle.fleet_rows.specs.Records.{is_header, wagon_record}
use Rattle.fleet_rows.specs.Roster.{IsRoster}
use Rattle.fleet_rows.specs.Kept.{max_roster_wagons}
use Rattle.fleet_rows.specs.SameWagons.{have_one_number}
use Rattle.fleet_rows.specs.RosterOf.{IsAnswered, IsReadFrom, IsRosterOf}
use Rattle.faults.specs.declared.faults.RosterFault.{RosterFault}
use Rattle.faults.specs.declared.faults.RosterFault.TheVariants.{OutOfMemory, DuplicateWagon, TooLarge, BadRosterRow, ReadFailed}

once : TakesEachOnce roster_rule have_one_number
once = record {
  alike = on_equiv (λ (row : WagonRow). row.number) (lists_equiv nat_eq_equiv);
  begins = refl;
  takes = λ rows row new. rw new refl;
  fault = λ rows row. DuplicateWagon row.number;
  refuses = λ rows row there. rw there refl;
}

-- rows that are read are those of the records below the header
pub file_of_rows : (records : List Record) (rows : List WagonRow) → rows_of records ≡ Ok rows → AreBelowHeader is_header wagon_record max_roster_wagons records rows
file_of_rows records rows e = (AreApart-read roster_rule have_one_number once records rows e).file

-- a roster of what is read is that of the records
IsRosterOf-read : (records : List Record) (rows roster : List WagonRow) → rows_of records ≡ Ok rows → IsPermutation rows roster → IsRoster roster → IsRosterOf records roster
IsRosterOf-read records rows roster e same kept =
    let read = AreApart-read roster_rule have_one_number once records rows e in
    record {
      rows = rows;
      file = read.file;
      no_wagon_twice = read.apart;
      same_rows = same;
      in_order = kept;
    }

IsRosterOf-is_read : (records : List Record) (roster : List WagonRow) (h : IsRosterOf records roster) → rows_of records ≡ Ok h.rows
IsRosterOf-is_read records roster h = AreApart-is_read roster_rule have_one_number once records h.rows h.file h.no_wagon_twice

exact_from : (records : List Record) (result : Result (List WagonRow) RosterFault) → Gives result (rows_of records) → IfOk result IsRoster → IfOk result (IsRosterOf records)
exact_from records (Ok roster) gives kept = IsRosterOf-read records gives.rows roster gives.are_read gives.same kept
exact_from records (Err fault) gives kept = tt

no_fault : (rows : List WagonRow) (read : Result (List WagonRow) RosterFault) (fault : RosterFault) → read ≡ Ok rows → Stops is_failure fault read → IsTrue (is_failure fault)
no_fault rows read OutOfMemory e stops = refl
no_fault rows read ReadFailed e stops = refl
no_fault rows read (DuplicateWagon number) e stops = cc (e, stops)
no_fault rows read TooLarge e stops = cc (e, stops)
no_fault rows read (BadRosterRow n) e stops = cc (e, stops)

complete_from : (records : List Record) (result : Result (List WagonRow) RosterFault) → Gives result (rows_of records) → IfOk result IsRoster
    → (roster : List WagonRow) → IsRosterOf records roster → IsAnswered roster result
complete_from records (Err fault) gives kept roster h = no_fault h.rows (rows_of records) fault (IsRosterOf-is_read records roster h) gives
complete_from records (Ok answer) gives kept roster h =
    let rows : gives.rows ≡ h.rows = cc (gives.are_read, IsRosterOf-is_read records roster h) in
    let moved : IsPermutation h.rows answer = subst (λ rows. IsPermutation rows answer) rows gives.same in
    let same = IsPermutation-trans answer h.rows roster (IsPermutation-sym h.rows answer moved) h.same_rows in
    same_order by_number_total answer roster kept.ascending h.in_order.ascending same

-- what is answered of a file's records is a roster that is read from them
pub IsReadFrom-gives : (known : Option (List ℕ)) (records : List Record) (result : Result (List WagonRow) RosterFault) → IfSome known (λ bytes. AreRecordsOf bytes records) → Gives result (rows_of records)
    → IfOk result IsRoster → IsReadFrom known result
IsReadFrom-gives known records result all gives kept =
    record { records = records; all_records = all; first_fault = gives; exact = exact_from records result gives kept; complete = complete_from records result gives kept }

plain_ok : (result : Result (List WagonRow) (FaultAt RosterRefusal)) → IfOk result IsRoster → IfOk (plain result) IsRoster
plain_ok (Ok roster) kept = kept
plain_ok (Err stop) kept = tt

pub IsReadTo-gives : (known : Option (List ℕ)) (records : List Record) (result : Result (List WagonRow) (FaultAt RosterRefusal)) → IfSome known (λ bytes. AreRecordsOf bytes records)
    → Gives (plain result) (rows_of records) → IfOk result IsRoster → IfErr result (λ stop. StopsAt IsFailureOf AreRowsOf Refuses records stop.fault stop.at) → IsReadTo known result
unfolding IsReadFrom-gives
IsReadTo-gives known records result all gives kept stop = record { read = IsReadFrom-gives known records (plain result) all gives (plain_ok result kept); stop = stop }
