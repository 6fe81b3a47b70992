-- A network with one more record: the places keep their numbers, and what a network keeps is kept.
use Rattle.std.proofs.Common.{◌≡◌, ◌∙◌, ℕ, ◌+◌, ◌<◌, ◌≤◌, Bool, true, List, [], ◌∷◌, ◌++◌, length, Ok, refl, ap, sym, subst, inl, inr, arith, All, IfNone, IfSome, None, Option, Some, get_or, length-append, le-ltb, lt-ltb}
use Rattle.std.proofs.lemmas.Bool.{cases_Bool}
use Rattle.std.proofs.lemmas.List.Elements.{All-append, All-cons, All-nil, All-weaker}
use Rattle.std.proofs.lemmas.List.Folds.{list_any-append, list_any_at}
use Rattle.std.proofs.lemmas.List.Quantifiers.{position-Some}
use Rattle.std.proofs.lemmas.Option.{get_or_from_slice_get, slice_get-get_or, slice_get_within}
use Rattle.std.proofs.lemmas.Map.Keys.{IsDistinct-push}
use Rattle.std.specs.Cmp.{IsEquivalence, nat_eq_equiv}
use Rattle.std.specs.Cmp.Lexicographic.{bytes_decides, lists_equiv}
use Rattle.std.specs.List.{IsDistinct, list_any, position_or_len, slice_get}
use Rattle.line_network.specs.NetworkLimits.{IsLine, IsNetwork, max_network_lines, max_places}
use Rattle.line_network.specs.Network.{NetworkValue, are_one_place, place_index}
use Rattle.line_network.specs.Reading.{after_record, line_of, lines_between, lines_by_way, lines_of, number_of, with_ends, with_place, with_record}
use Rattle.line_network.specs.inner.Reading.{HasLengths}
use Rattle.line_network.specs.declared.line.Line.{Line}
use Rattle.line_network.specs.declared.line_record.LineRecord.{LineRecord}
use Rattle.line_network.specs.declared.line_record.Way.{Way}
use Rattle.line_network.specs.declared.line_record.Way.TheVariants.{One, Both}

pub same_place : IsEquivalence are_one_place
same_place = lists_equiv nat_eq_equiv

-- where something is found, it stands below the length
found_below : {X : Type 0} (test : X → Bool) (xs : List X) → list_any test xs ≡ true → position_or_len test xs < length xs
found_below test [] h = cc h
found_below test (x ∷ xs) h = elim (cases_Bool (test x)) [
  | inl here ↦ rw here (omega arith)
  | inr later ↦ let below : position_or_len test xs < length xs = found_below test xs (rw later at h) in rw later (omega arith)
]

-- what is found stays where it is when more follows
found_before : {X : Type 0} (test : X → Bool) (xs more : List X) → list_any test xs ≡ true → position_or_len test (xs ++ more) ≡ position_or_len test xs
found_before test [] more h = cc h
found_before test (x ∷ xs) more h = elim (cases_Bool (test x)) [
  | inl here ↦ rw here refl
  | inr later ↦ let same : position_or_len test (xs ++ more) ≡ position_or_len test xs = found_before test xs more (rw later at h) in rw (later, same) refl
]

-- a place that is named is there
pub named : (places : List (List ℕ)) (place : List ℕ) → list_any (are_one_place place) (with_place places place) ≡ true
named places place = elim (cases_Bool (list_any (are_one_place place) places)) [
  | inl there ↦ rw there there
  | inr other ↦ rw other (rw (list_any-append, other, same_place.refl place) refl)
]

-- and is there still when another is named, with the same number
pub still_named : (places : List (List ℕ)) (place other : List ℕ) → list_any (are_one_place place) places ≡ true
    → list_any (are_one_place place) (with_place places other) ≡ true
still_named places place other h = elim (cases_Bool (list_any (are_one_place other) places)) [
  | inl there ↦ rw there h
  | inr new ↦ rw new (rw (list_any-append, h) refl)
]

pub same_number : (places : List (List ℕ)) (place other : List ℕ) → list_any (are_one_place place) places ≡ true
    → number_of (with_place places other) place ≡ number_of places place
same_number places place other h = elim (cases_Bool (list_any (are_one_place other) places)) [
  | inl there ↦ rw there refl
  | inr new ↦ rw new (found_before (are_one_place place) places (other ∷ []) h)
]

pub number_below : (places : List (List ℕ)) (place : List ℕ) → list_any (are_one_place place) places ≡ true → number_of places place < length places
number_below places place h = found_below (are_one_place place) places h

pub distinct_still : (places : List (List ℕ)) (place : List ℕ) → IsDistinct are_one_place places → IsDistinct are_one_place (with_place places place)
distinct_still places place h = elim (cases_Bool (list_any (are_one_place place) places)) [
  | inl there ↦ rw there h
  | inr new ↦ rw new (IsDistinct-push same_place places place h new)
]

pub no_fewer : (places : List (List ℕ)) (place : List ℕ) → length places ≤ length (with_place places place)
no_fewer places place = elim (cases_Bool (list_any (are_one_place place) places)) [
  | inl there ↦ rw there (omega arith)
  | inr new ↦ rw new (omega (arith, length-append places (place ∷ [])))
]

-- a line between places stays one when there are more places
more_places : (n m : ℕ) → n ≤ m → (line : Line) → IsLine n line → IsLine m line
more_places n m h line l = record {
  from_known = omega (arith, l.from_known);
  to_known = omega (arith, l.to_known);
  some_km = l.some_km;
  most_km = l.most_km;
  some_minutes = l.some_minutes;
  most_minutes = l.most_minutes;
}

one_line : (n from to : ℕ) (r : LineRecord) → from < n → to < n → HasLengths r → IsLine n (line_of from to r)
one_line n from to r f t h = record {
  from_known = f;
  to_known = t;
  some_km = h.some_km;
  most_km = h.most_km;
  some_minutes = h.some_minutes;
  most_minutes = h.most_minutes;
}

-- the lines of a record are lines
lines_by_way-are : (n from to : ℕ) (r : LineRecord) (way : Way) → from < n → to < n → HasLengths r → All (IsLine n) (lines_by_way from to r way)
lines_by_way-are n from to r One f t h = All-cons (IsLine n) (line_of from to r) [] (one_line n from to r f t h) (All-nil (IsLine n))
lines_by_way-are n from to r Both f t h =
    All-cons (IsLine n) (line_of from to r) (line_of to from r ∷ []) (one_line n from to r f t h)
    (All-cons (IsLine n) (line_of to from r) [] (one_line n to from r t f h) (All-nil (IsLine n)))

few_by_way : (from to : ℕ) (r : LineRecord) (way : Way) → length (lines_by_way from to r way) ≤ 2
few_by_way from to r One = omega arith
few_by_way from to r Both = omega arith

-- a network with one more record is one
IsNetwork-after : (network : NetworkValue) (r : LineRecord) → IsNetwork network → HasLengths r → length network.lines + 2 ≤ max_network_lines
    → length (with_ends network.places r) ≤ max_places → IsNetwork (after_record network r)
IsNetwork-after network r kept h few fewer =
    let first = with_place network.places r.from in
    let all = with_ends network.places r in
    let grown : length network.places ≤ length all = omega (arith, no_fewer network.places r.from, no_fewer first r.to) in
    let from : number_of all r.from < length all = number_below all r.from (still_named first r.from r.to (named network.places r.from)) in
    let to : number_of all r.to < length all = number_below all r.to (named first r.to) in
    record {
      few_places = fewer;
      distinct = distinct_still first r.to (distinct_still network.places r.from kept.distinct);
      few_lines = omega (arith, length-append network.lines (lines_of all r), few_by_way (number_of all r.from) (number_of all r.to) r r.way);
      lines = All-append (IsLine (length all)) network.lines (lines_of all r)
          (All-weaker (IsLine (length network.places)) (IsLine (length all)) (more_places (length network.places) (length all) grown) network.lines kept.lines)
          (lines_by_way-are (length all) (number_of all r.from) (number_of all r.to) r r.way from to h);
    }

-- this network is another with one more record, and its places are few
pub record IsMade (network : NetworkValue) (r : LineRecord) (made : NetworkValue) : Type 0 where
  pub is : made ≡ after_record network r
  pub few : length made.places ≤ max_places

-- what is made of a record by naming its ends in turn
pub made_in_turn : (network : NetworkValue) (r : LineRecord) (first places : List (List ℕ)) (lines : List Line) (from to : ℕ)
    → first ≡ with_place network.places r.from → places ≡ with_place first r.to → from ≡ number_of first r.from → to ≡ number_of places r.to
    → lines ≡ network.lines ++ lines_between from to r → length places ≤ max_places → IsMade network r (record { places = places; lines = lines })
made_in_turn network r first places lines from to one both f t l few =
    let same : number_of (with_ends network.places r) r.from ≡ number_of (with_place network.places r.from) r.from =
    same_number (with_place network.places r.from) r.from r.to (named network.places r.from) in
    record { is = rw (l, f, t, both, one, ← same) refl; few = few }

-- it keeps what a network keeps
pub IsNetwork-made : (network : NetworkValue) (r : LineRecord) (made : NetworkValue) → IsMade network r made → IsNetwork network → HasLengths r
    → length network.lines + 2 ≤ max_network_lines → IsNetwork made
IsNetwork-made network r made h kept lengths room =
    subst IsNetwork (sym h.is) (IsNetwork-after network r kept lengths room (subst (λ (n : NetworkValue). length n.places ≤ max_places) h.is h.few))

-- and it is the network with the record
pub with_record-made : (network self : NetworkValue) (r : LineRecord) (made : NetworkValue) → network ≡ self → IsMade network r made → with_record self r ≡ Ok made
with_record-made network self r made view h =
    let fits : length (with_ends self.places r) ≤ max_places =
    subst (λ (n : NetworkValue). length (with_ends n.places r) ≤ max_places) view (subst (λ (n : NetworkValue). length n.places ≤ max_places) h.is h.few) in
    let same : after_record self r ≡ made = ap (λ (n : NetworkValue). after_record n r) (sym view) ∙ sym h.is in
    rw (le-ltb max_places (length (with_ends self.places r)) fits) (ap Ok same)

-- the number of a place is where it stands
pub place_known : (places : List (List ℕ)) (place : List ℕ) (found : Option ℕ) → found ≡ place_index places place → IfSome found (λ k. slice_get places k ≡ Some place)
place_known places place None e = tt
place_known places place (Some k) e =
    let (below, same, first) = position-Some (are_one_place place) places k [] (sym e) in
    slice_get-get_or places k [] below ∙ ap Some (sym ((bytes_decides place (get_or places k [])).0 same))

-- and what has no number stands nowhere
pub place_unknown : (places : List (List ℕ)) (place : List ℕ) (found : Option ℕ) → found ≡ place_index places place
    → IfNone found ((k : ℕ) → slice_get places k ≡ Some place → ⊥)
place_unknown places place (Some k) e = tt
place_unknown places place None e = λ k there.
    let read : get_or places k [] ≡ place = get_or_from_slice_get places k place [] there in
    let test : are_one_place place (get_or places k []) ≡ true = rw read (same_place.refl place) in
    let below : position_or_len (are_one_place place) places < length places =
    found_below (are_one_place place) places (list_any_at (are_one_place place) places k [] (slice_get_within places k place there) test) in
    cc (rw (lt-ltb (position_or_len (are_one_place place) places) (length places) below) at e)
