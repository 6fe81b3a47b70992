-- The network that is read record by record is the network of the records.
use Rattle.std.proofs.Common.{◌≡◌, ◌∙◌, ℕ, ◌≤◌, true, List, [], ◌∷◌, ◌++◌, length, Option, IfErr, IfOk, IfSome, Result, Ok, Err, fold, refl, ap, sym, subst, inl, inr, arith, nat_lt, le-ltb, lit≤, ltb-false}
use Rattle.std.proofs.lemmas.Bool.{cases_Bool}
use Rattle.std.proofs.lemmas.List.{append-nil, append_assoc}
use Rattle.std.specs.List.{flat_map, list_any}
use Rattle.line_network.proofs.NetworkLemmas.{named, no_fewer, same_number, still_named}
use Rattle.line_network.specs.Network.{NetworkValue, are_one_place}
use Rattle.line_network.specs.NetworkLimits.{max_places}
use Rattle.line_network.specs.NetworkOf.{IsNetworkOf, IsReadFrom, ends_of}
use Rattle.line_network.specs.Reading.{after_record, is_failure, lines_between, lines_of, network_of, network_rule, no_network, number_of, with_ends, with_place}
use Rattle.csv_records.proofs.Saying.{IsCollected-is_read, IsCollected-read, with_all}
use Rattle.csv_records.specs.Fields.{Record}
use Rattle.csv_records.specs.Files.{AreRecordsOf}
use Rattle.csv_records.specs.Reading.{Gives}
use Rattle.csv_records.specs.Stopping.{StopsAt}
use Rattle.csv_records.specs.declared.fault_at.FaultAt.{FaultAt}
use Rattle.line_network.specs.Stops.{IsFailureOf, IsReadTo, IsSaidBy, Refuses, plain}
use Rattle.line_network.specs.declared.line.Line.{Line}
use Rattle.line_network.specs.declared.line_record.LineRecord.{LineRecord}
use Rattle.faults.specs.declared.faults.NetworkFault.{NetworkFault}

-- naming the ends of all records is naming those of each in turn
ends_in_turn : (places : List (List ℕ)) (records : List LineRecord) → fold with_place places (flat_map ends_of records) ≡ fold with_ends places records
ends_in_turn places [] = refl
ends_in_turn places (r ∷ records) = ends_in_turn (with_ends places r) records

-- a place keeps its number while records are read
kept_number : (places : List (List ℕ)) (place : List ℕ) (records : List LineRecord) → list_any (are_one_place place) places ≡ true
    → number_of (fold with_ends places records) place ≡ number_of places place
kept_number places place [] h = refl
kept_number places place (r ∷ records) h =
    let first = with_place places r.from in
    let there = still_named places place r.from h in
    kept_number (with_ends places r) place records (still_named first place r.to there) ∙ same_number first place r.to there ∙ same_number places place r.from h

-- so the lines of a record are the same between the places of all records
kept_lines : (places : List (List ℕ)) (r : LineRecord) (records : List LineRecord)
    → lines_of (fold with_ends (with_ends places r) records) r ≡ lines_of (with_ends places r) r
kept_lines places r records =
    let first = with_place places r.from in
    let from = kept_number (with_ends places r) r.from records (still_named first r.from r.to (named places r.from)) in
    let to = kept_number (with_ends places r) r.to records (named first r.to) in
    ap (λ n. lines_between n (number_of (fold with_ends (with_ends places r) records) r.to) r) from ∙ ap (λ n. lines_between (number_of (with_ends places r) r.from) n r) to

grown : (places : List (List ℕ)) (records : List LineRecord) → length places ≤ length (fold with_ends places records)
grown places [] = omega arith
grown places (r ∷ records) = omega (arith, no_fewer places r.from, no_fewer (with_place places r.from) r.to, grown (with_ends places r) records)

same_network : (a b : NetworkValue) → a.places ≡ b.places → a.lines ≡ b.lines → a ≡ b
same_network a b places lines =
    let made : NetworkValue = record { places = b.places; lines = b.lines } in
    let P : List (List ℕ) → Type 0 = λ p. (let v : NetworkValue = record { places = p; lines = a.lines } in v ≡ made) in
    let Q : List Line → Type 0 = λ l. (let v : NetworkValue = record { places = b.places; lines = l } in v ≡ made) in
    subst P (sym places) (subst Q (sym lines) refl)

-- From a network on, this one has the places and the lines of these records.
record IsTaken (network : NetworkValue) (records : List LineRecord) (end : NetworkValue) : Type 0 where
  places : end.places ≡ fold with_ends network.places records
  few_places : length end.places ≤ max_places
  lines : end.lines ≡ network.lines ++ flat_map (lines_of end.places) records

is_taken : (network : NetworkValue) (records : List LineRecord) (end : NetworkValue) → length network.places ≤ max_places → with_all network_rule network records ≡ Ok end
    → IsTaken network records end
is_taken network [] end few e =
    let same : network ≡ end = cc e in
    rw (← same) (record { places = refl; few_places = few; lines = sym (append-nil network.lines) })
is_taken network (r ∷ records) end few e = elim (cases_Bool (nat_lt max_places (length (with_ends network.places r)))) [
  | inl many ↦ cc (rw many at e)
  | inr fits ↦
      let then = is_taken (after_record network r) records end (ltb-false max_places (length (with_ends network.places r)) fits) (rw fits at e) in
      let places : end.places ≡ fold with_ends (with_ends network.places r) records = then.places in
      let kept : lines_of end.places r ≡ lines_of (with_ends network.places r) r = rw places (kept_lines network.places r records) in
      record { places = places; few_places = then.few_places; lines = then.lines ∙ rw (append_assoc, kept) refl }
]

take_all_of : (network : NetworkValue) (records : List LineRecord) (end : NetworkValue) → IsTaken network records end → with_all network_rule network records ≡ Ok end
take_all_of network [] end h =
    let same : network.lines ≡ end.lines = sym (append-nil network.lines) ∙ sym h.lines in
    let all : network ≡ end = same_network network end (sym h.places) same in
    rw all refl
take_all_of network (r ∷ records) end h =
    let less : length (with_ends network.places r) ≤ max_places = omega (arith, h.few_places, grown (with_ends network.places r) records, ap length h.places) in
    let kept : lines_of end.places r ≡ lines_of (with_ends network.places r) r = rw h.places (kept_lines network.places r records) in
    let rest : IsTaken (after_record network r) records end =
    record { places = h.places; few_places = h.few_places; lines = h.lines ∙ rw (append_assoc, kept) refl } in
    rw (le-ltb max_places (length (with_ends network.places r)) less) (take_all_of (after_record network r) records end rest)

-- a network that is read is that of its records
pub IsNetworkOf-read : (rows : List Record) (network : NetworkValue) → network_of rows ≡ Ok network → IsNetworkOf rows network
IsNetworkOf-read rows network e =
    let read = IsCollected-read network_rule rows network e in
    let taken = is_taken no_network read.entries network (lit≤ tt) read.taken in
    record {
      records = read.entries;
      file = read.file;
      places = taken.places ∙ sym (ends_in_turn [] read.entries);
      few_places = taken.few_places;
      lines = taken.lines;
    }

pub IsNetworkOf-is_read : (rows : List Record) (network : NetworkValue) → IsNetworkOf rows network → network_of rows ≡ Ok network
IsNetworkOf-is_read rows network h =
    let taken : IsTaken no_network h.records network = record { places = h.places ∙ ends_in_turn [] h.records; few_places = h.few_places; lines = h.lines } in
    IsCollected-is_read network_rule rows network (record { entries = h.records; file = h.file; taken = take_all_of no_network h.records network taken })

exact_from : (rows : List Record) (result : Result NetworkValue NetworkFault) → Gives is_failure result (network_of rows) → IfOk result (IsNetworkOf rows)
exact_from rows (Ok network) gives = IsNetworkOf-read rows network gives
exact_from rows (Err fault) gives = tt

complete_from : (rows : List Record) (result : Result NetworkValue NetworkFault) → Gives is_failure result (network_of rows)
    → (network : NetworkValue) → IsNetworkOf rows network → Gives is_failure result (Ok network)
complete_from rows result gives network h = rw (IsNetworkOf-is_read rows network h) at gives

-- what is answered of a file's records is a network that is read from them
pub IsReadFrom-gives : (known : Option (List ℕ)) (rows : List Record) (result : Result NetworkValue NetworkFault) → IfSome known (λ bytes. AreRecordsOf bytes rows) → Gives is_failure result (network_of rows)
    → IsReadFrom known result
IsReadFrom-gives known rows result all gives =
    record { rows = rows; all_rows = all; first_fault = gives; exact = exact_from rows result gives; complete = complete_from rows result gives }

pub IsReadTo-gives : (known : Option (List ℕ)) (rows : List Record) (result : Result NetworkValue (FaultAt NetworkFault)) → IfSome known (λ bytes. AreRecordsOf bytes rows)
    → Gives is_failure (plain result) (network_of rows) → IfErr result (λ stop. StopsAt IsFailureOf IsSaidBy Refuses rows stop.fault stop.at) → IsReadTo known result
unfolding IsReadFrom-gives
IsReadTo-gives known rows result all gives stop = record { read = IsReadFrom-gives known rows (plain result) all gives; stop = stop }
