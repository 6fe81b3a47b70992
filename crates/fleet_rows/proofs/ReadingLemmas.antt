-- What one record more says of the roster, and what is answered where one is refused.
use Rattle.std.proofs.Common.{◌≡◌, ◌∙◌, ℕ, zero, suc, ◌+◌, ◌-◌, ◌<◌, ◌≤◌, true, false, List, [], ◌∷◌, ◌++◌, length, map, Option, Some, Result, Ok, Err, IfErr, IfOk, OnOk, refl, ap, sym, inl, inr, arith, length-append, slice_get, lt-ltb}
use Rattle.std.proofs.lemmas.Bool.{cases_Bool}
use Rattle.std.specs.Cmp.Lexicographic.{same_text}
use Rattle.std.specs.List.{position_or_len}
use Rattle.std.proofs.lemmas.List.Sorted.{IsPermutation-cons, IsPermutation-refl, IsPermutation-to_front, IsPermutation-trans, length_permutation, list_any-IsPermutation}
use Rattle.std.specs.List.Sorted.{IsPermutation}
use Rattle.csv_records.proofs.Saying.{SaysSoFar-end, SaysSoFar-more, SaysSoFar-stops, with_record-known}
use Rattle.csv_records.proofs.StopLemmas.{StopsAt-said}
use Rattle.csv_records.specs.Fields.{Record}
use Rattle.csv_records.specs.Reading.{Stops, with_record}
use Rattle.csv_records.specs.Requests.{IsOutcome}
use Rattle.csv_records.specs.Stopping.{StopsAt}
use Rattle.csv_records.specs.declared.fault_at.FaultAt.{FaultAt}
use Rattle.wagons_and_orders.specs.declared.wagon_row.WagonRow.{WagonRow}
use Rattle.fleet_rows.specs.Reading.{Gives, is_failure, roster_rule, rows_of}
use Rattle.fleet_rows.specs.Records.{is_header, wagon_record}
use Rattle.fleet_rows.proofs.RosterLemmas.{IsRoster-empty}
use Rattle.fleet_rows.proofs.RosterOfLemmas.{file_of_rows}
use Rattle.fleet_rows.specs.Stops.{AreRowsOf, IsFailureOf, IsFirstOf, Refuses, SaysWagon, plain}
use Rattle.fleet_rows.specs.declared.roster_refusal.RosterRefusal.{RosterRefusal}
use Rattle.fleet_rows.specs.declared.roster_so_far.RosterSoFar.{RosterSoFar}
use Rattle.fleet_rows.specs.Roster.{IsRoster}
use Rattle.fleet_rows.specs.Kept.{max_roster_wagons}
use Rattle.fleet_rows.specs.SameWagons.{has_wagon, is_same_number}
use Rattle.fleet_rows.specs.inner.Reading.{IsNumberedSoFar, IsReadSoFar, RefusesWagon, first_record}
use Rattle.faults.specs.declared.faults.RosterFault.{RosterFault}
use Rattle.faults.specs.declared.faults.RosterFault.TheVariants.{OutOfMemory, DuplicateWagon, TooLarge, BadRosterRow, ReadFailed}

-- rows have the wagons that they have in another order
same_wagons : (rows roster : List WagonRow) (number : List ℕ) → IsPermutation rows roster → has_wagon rows number ≡ has_wagon roster number
same_wagons rows roster number same = list_any-IsPermutation (λ (row : WagonRow). is_same_number number row.number) rows roster same

-- why a wagon was not added to a roster says why its record is refused
stops_refused : (number : ℕ) (rows roster : List WagonRow) (fields : Record) (row : WagonRow) (fault : RosterFault) → IsPermutation rows roster → number ≤ max_roster_wagons + 1
    → wagon_record fields ≡ Some row → RefusesWagon fault roster row → Stops is_failure fault (with_record roster_rule number rows fields)
stops_refused number rows roster fields row OutOfMemory same few says refused = tt
stops_refused number rows roster fields row (DuplicateWagon wagon) same few says refused =
    let there : has_wagon rows row.number ≡ true = same_wagons rows roster row.number same ∙ rw (sym refused.0) refused.1 in
    with_record-known roster_rule number rows fields row few says ∙ rw there (ap (λ n. Err (DuplicateWagon n)) (sym refused.0))
stops_refused number rows roster fields row TooLarge same few says refused = absurd refused
stops_refused number rows roster fields row (BadRosterRow n) same few says refused = absurd refused
stops_refused number rows roster fields row ReadFailed same few says refused = absurd refused

-- one record more, of a wagon that the roster lacks
IsReadSoFar-more : (number : ℕ) (roster more : List WagonRow) (done : List Record) (fields : Record) (row : WagonRow) (h : IsReadSoFar roster done) → length done + 1 ≡ number
    → number ≤ max_roster_wagons + 1 → wagon_record fields ≡ Some row → has_wagon roster row.number ≡ false → IsPermutation (row ∷ roster) more → IsRoster more
    → (read : IsReadSoFar more (done ++ fields ∷ [])) × (read.rows ≡ h.rows ++ row ∷ [])
IsReadSoFar-more number roster more done fields row h counted few says new added kept =
    let fresh : has_wagon h.rows row.number ≡ false = same_wagons h.rows roster row.number h.same ∙ new in
    let read : with_record roster_rule (length done + 1) h.rows fields ≡ Ok (h.rows ++ row ∷ []) = with_record-known roster_rule (length done + 1) h.rows fields row (omega arith) says ∙ rw fresh refl in
    let moved = IsPermutation-trans (h.rows ++ row ∷ []) (row ∷ h.rows) (row ∷ roster) (IsPermutation-to_front h.rows row) (IsPermutation-cons row h.rows roster h.same) in (
      record {
        rows = h.rows ++ row ∷ [];
        so_far = SaysSoFar-more roster_rule h.rows (h.rows ++ row ∷ []) done fields h.so_far read;
        same = IsPermutation-trans (h.rows ++ row ∷ []) (row ∷ roster) more moved added;
        few = omega (arith, h.few, length_permutation (row ∷ roster) more added, length-append done (fields ∷ []));
        kept = kept;
      },
      refl,
    )

abbrev numbers : List WagonRow → List (List ℕ)
numbers rows = map (λ (row : WagonRow). row.number) rows

numbers_more : (rows : List WagonRow) (row : WagonRow) → numbers (rows ++ row ∷ []) ≡ numbers rows ++ row.number ∷ []
numbers_more [] row = refl
numbers_more (r ∷ rows) row = ap (λ (l : List (List ℕ)). r.number ∷ l) (numbers_more rows row)

-- the header alone
pub IsNumberedSoFar-none : (so_far : RosterSoFar) (header : Record) → so_far.roster ≡ [] → so_far.named.items ≡ [] → is_header header ≡ true → IsNumberedSoFar so_far (header ∷ [])
IsNumberedSoFar-none so_far header roster named right =
    let read : IsReadSoFar so_far.roster (header ∷ []) =
    record { rows = []; so_far = λ rest. rw right refl; same = rw roster (IsPermutation-refl []); few = rw roster refl; kept = rw roster IsRoster-empty } in
    record { read = read; in_order = named }

-- one record more
pub made_from : (number : ℕ) (so_far : RosterSoFar) (fields : Record) (row : WagonRow) (result : Result RosterSoFar RosterRefusal) → number ≤ max_roster_wagons + 1
    → wagon_record fields ≡ Some row → IfOk result (λ more. IsPermutation (row ∷ so_far.roster) more.roster) → IfOk result (λ more. more.named.items ≡ so_far.named.items ++ row.number ∷ [])
    → OnOk result (has_wagon so_far.roster row.number ≡ false) → IfOk result (λ more. IsRoster more.roster)
    → IfOk result (λ made. (done : List Record) → IsNumberedSoFar so_far done → length done + 1 ≡ number → IsNumberedSoFar made (done ++ fields ∷ []))
made_from number so_far fields row (Ok more) few says added named new kept = λ done h counted.
    let (read, rows) = IsReadSoFar-more number so_far.roster more.roster done fields row h.read counted few says new added kept in
    record { read = read; in_order = named ∙ ap (λ (l : List (List ℕ)). l ++ row.number ∷ []) h.in_order ∙ sym (numbers_more h.read.rows row) ∙ ap numbers (sym rows) }
made_from number so_far fields row (Err refusal) few says added named new kept = tt

-- ---- a wagon that stands twice

-- where a wagon first stands, and that it stands there
record StandsFirst (rows : List WagonRow) (wagon : List ℕ) : Type 0 where
  index : ℕ
  row : WagonRow
  first : position_or_len (is_same_number wagon) (numbers rows) ≡ index
  within : index < length rows
  there : slice_get rows index ≡ Some row
  same : row.number ≡ wagon

stands_first : (rows : List WagonRow) (wagon : List ℕ) → has_wagon rows wagon ≡ true → StandsFirst rows wagon
stands_first [] wagon e = cc e
stands_first (row ∷ rows) wagon e = elim (cases_Bool (is_same_number wagon row.number)) [
  | inl here ↦ record { index = 0; row = row; first = rw here refl; within = omega arith; there = refl; same = sym (same_text wagon row.number (sym here)) }
  | inr other ↦
      let later = stands_first rows wagon (rw other at e) in
      record { index = suc later.index; row = later.row; first = rw other (omega (arith, later.first)); within = omega (arith, later.within); there = later.there; same = later.same }
]

length_numbers : (rows : List WagonRow) → length (numbers rows) ≡ length rows
length_numbers [] = refl
length_numbers (row ∷ rows) = ap suc (length_numbers rows)

pub as_many : (so_far : RosterSoFar) (done : List Record) → IsNumberedSoFar so_far done → length so_far.named.items ≡ length so_far.roster
as_many so_far done h = ap length h.in_order ∙ length_numbers h.read.rows ∙ sym (length_permutation h.read.rows so_far.roster h.read.same)

known_first : (rows : List WagonRow) (wagon : List ℕ) (h : StandsFirst rows wagon) → first_record (numbers rows) wagon ≡ Some (h.index + 2)
known_first rows wagon h =
    let few : h.index < length (numbers rows) = omega (arith, h.within, length_numbers rows) in
    rw (h.first, lt-ltb h.index (length (numbers rows)) few) refl

-- the record of a row
record IsOfRow (below : List Record) (index : ℕ) (row : WagonRow) : Type 0 where
  fields : Record
  there : slice_get below index ≡ Some fields
  said : wagon_record fields ≡ Some row

of_row : (below : List Record) (rows : List WagonRow) (index : ℕ) (row : WagonRow) → map wagon_record below ≡ map Some rows → slice_get rows index ≡ Some row → IsOfRow below index row
of_row [] [] index row each at = cc at
of_row [] (r ∷ rows) index row each at = cc each
of_row (fields ∷ below) [] index row each at = cc each
of_row (fields ∷ below) (r ∷ rows) zero row each at =
    let said : wagon_record fields ≡ Some r = cc each in
    record { fields = fields; there = refl; said = said ∙ at }
of_row (fields ∷ below) (r ∷ rows) (suc index) row each at =
    let others : map wagon_record below ≡ map Some rows = cc each in
    let later = of_row below rows index row others at in
    record { fields = later.fields; there = later.there; said = later.said }

still_there : (below more : List Record) (index : ℕ) (fields : Record) → slice_get below index ≡ Some fields → slice_get (below ++ more) index ≡ Some fields
still_there [] more index fields at = cc at
still_there (x ∷ below) more zero fields at = at
still_there (x ∷ below) more (suc index) fields at = still_there below more index fields at

-- a wagon among the rows of records is said by the record that is the first of it, whatever follows
says_first : (rows : List WagonRow) (done more : List Record) (wagon : List ℕ) → rows_of done ≡ Ok rows → has_wagon rows wagon ≡ true
    → (number : ℕ) × (first_record (numbers rows) wagon ≡ Some number) × SaysWagon (done ++ more) number wagon
says_first rows done more wagon read has =
    let whole = file_of_rows done rows read in
    let first = stands_first rows wagon has in
    let row = of_row whole.below rows first.index first.row whole.each_read first.there in
    let below : first.index + 2 - 1 ≡ suc first.index = omega arith in
    let there : slice_get (done ++ more) (suc first.index) ≡ Some row.fields =
    ap (λ (l : List Record). slice_get (l ++ more) (suc first.index)) whole.header_first ∙ still_there whole.below more first.index row.fields row.there in (
      first.index + 2,
      known_first rows wagon first,
      record { below_header = omega arith; fields = row.fields; there = rw below there; row = first.row; said = row.said; same = first.same },
    )

first_of : (so_far : RosterSoFar) (done more : List Record) (row : WagonRow) (fault : RosterFault) (first : Option ℕ) → IsNumberedSoFar so_far done → RefusesWagon fault so_far.roster row
    → (fault ≡ DuplicateWagon row.number → first ≡ first_record so_far.named.items row.number) → IsFirstOf fault first (done ++ more)
first_of so_far done more row OutOfMemory first h refused is = tt
first_of so_far done more row TooLarge first h refused is = tt
first_of so_far done more row (BadRosterRow n) first h refused is = tt
first_of so_far done more row ReadFailed first h refused is = tt
first_of so_far done more row (DuplicateWagon wagon) first h refused is =
    let has : has_wagon h.read.rows wagon ≡ true = same_wagons h.read.rows so_far.roster wagon h.read.same ∙ refused.1 in
    let (number, known, says) = says_first h.read.rows done more wagon (SaysSoFar-end roster_rule h.read.rows done h.read.so_far) has in
    let named : first ≡ Some number = is (ap DuplicateWagon refused.0) ∙ rw (h.in_order, sym refused.0) known in
    rw named says

-- a record that is refused
pub refused_from : (number : ℕ) (so_far : RosterSoFar) (fields : Record) (row : WagonRow) (result : Result RosterSoFar RosterRefusal) → number ≤ max_roster_wagons + 1
    → wagon_record fields ≡ Some row → IfErr result (λ refusal. RefusesWagon refusal.fault so_far.roster row)
    → IfErr result (λ refusal. refusal.fault ≡ DuplicateWagon row.number → refusal.first ≡ first_record so_far.named.items row.number)
    → IfErr result (λ refusal. (done rest : List Record) → IsNumberedSoFar so_far done → length done + 1 ≡ number → Refuses refusal (done ++ fields ∷ rest))
refused_from number so_far fields row (Ok more) few says refused is = tt
refused_from number so_far fields row (Err refusal) few says refused is = λ done rest h counted.
    let first = stops_refused (length done + 1) h.read.rows so_far.roster fields row refusal.fault h.read.same (omega arith) says refused in (
      SaysSoFar-stops roster_rule h.read.rows done fields rest refusal.fault h.read.so_far first,
      first_of so_far done (fields ∷ rest) row refusal.fault refusal.first h refused is,
    )

-- what reading answers gives what the records say, and is a roster
abbrev pub roster_of : Result RosterSoFar (FaultAt RosterRefusal) → Result (List WagonRow) (FaultAt RosterRefusal)
roster_of (Ok so_far) = Ok so_far.roster
roster_of (Err stop) = Err stop

pub gives_from : (result : Result RosterSoFar (FaultAt RosterRefusal)) (records : List Record) → IsOutcome IsNumberedSoFar (λ stop records. Refuses stop.fault records) result records
    → Gives (plain (roster_of result)) (rows_of records)
gives_from (Ok so_far) records h = record { rows = h.read.rows; are_read = SaysSoFar-end roster_rule h.read.rows records h.read.so_far; same = h.read.same }
gives_from (Err stop) records h = h.0

pub roster_from : (result : Result RosterSoFar (FaultAt RosterRefusal)) (records : List Record) → IsOutcome IsNumberedSoFar (λ stop records. Refuses stop.fault records) result records
    → IfOk (roster_of result) IsRoster
roster_from (Ok so_far) records h = h.read.kept
roster_from (Err stop) records h = tt

-- and where it stopped
pub stops_from : (result : Result RosterSoFar (FaultAt RosterRefusal)) (records : List Record) → IfErr result (λ stop. StopsAt IsFailureOf IsNumberedSoFar Refuses records stop.fault stop.at)
    → IfErr (roster_of result) (λ stop. StopsAt IsFailureOf AreRowsOf Refuses records stop.fault stop.at)
stops_from (Ok so_far) records h = tt
stops_from (Err stop) records h =
    StopsAt-said IsNumberedSoFar AreRowsOf Refuses Refuses stop.fault stop.fault (λ so_far records is. (is.read.rows, SaysSoFar-end roster_rule is.read.rows records is.read.so_far)) (λ records refused. refused)
    IsFailureOf IsFailureOf records stop.at (λ failure is. is) h
