-- The entries of the manual beside the refusals: found by a number, and added to a text one after the other.
use Rattle.std.proofs.Common.{◌≡◌, ◌&&◌, ◌+◌, ◌<◌, ◌≤◌, ◌++◌, ℕ, zero, suc, Bool, true, false, eqb, nat_eq, List, [], ◌∷◌, length, map, get_or, take, Option, Some, None, option_map, Contains, is_some, refl, sym, ap, subst, inl, inr, arith, ◌∙◌, append_assoc, append-nil}
use Rattle.std.proofs.lemmas.Bool.{cases_Bool, eqb-true}
use Rattle.std.proofs.lemmas.List.{take_all, take_more}
use Rattle.std.proofs.lemmas.List.Concat.{flat_map-append}
use Rattle.std.proofs.lemmas.List.Elements.{Contains-append_right, Contains-get_or}
use Rattle.std.specs.Borrow.{Bor}
use Rattle.std.specs.Cmp.Lexicographic.{bytes_decides}
use Rattle.std.specs.List.{AllZip, find, flat_map, list_any}
use Rattle.faults.specs.Manual.{HasEntries, IsEntryFor, IsEntryOf, IsManual, heading, preface}
use Rattle.faults.specs.RefusalNumbers.{is_refusal_number, refusals}
use Rattle.faults.specs.inner.Entries.{are_entries, begins_with}

abbrev Listed : Type 0
Listed = ℕ × List ℕ

abbrev Entry : Type 0
Entry = ℕ × Bor (List ℕ)

both_true : (a b : Bool) → (a && b) ≡ true → (a ≡ true) × (b ≡ true)
both_true true b h = (refl, h)
both_true false b h = cc h

-- what the test says of the first refusal and its entry, and of the others
record FirstIs (r : Listed) (e : Entry) (listed : List Listed) (entries : List Entry) : Type 0 where
  number : e.0 ≡ r.0
  entry : IsEntryOf r e.1.now
  others : are_entries listed entries ≡ true

first_is : (r : Listed) (e : Entry) (listed : List Listed) (entries : List Entry) → are_entries (r ∷ listed) (e ∷ entries) ≡ true → FirstIs r e listed entries
first_is r e listed entries h =
    let title = heading r.0 r.1 in
    let (both, others) = both_true (nat_eq e.0 r.0 && begins_with e.1.now title) (are_entries listed entries) h in
    let (first, begins) = both_true (nat_eq e.0 r.0) (begins_with e.1.now title) both in
    record { number = eqb-true e.0 r.0 first; entry = (bytes_decides (take (length title) e.1.now) title).0 begins; others = others }

-- there is an entry of the numbers of refusals alone
found_alike : (number : ℕ) (listed : List Listed) (entries : List Entry) → are_entries listed entries ≡ true
    → is_some (find (λ (e : Entry). eqb number e.0) entries) ≡ list_any (nat_eq number) (map (λ (r : Listed). r.0) listed)
found_alike number [] [] h = refl
found_alike number [] (e ∷ entries) h = cc h
found_alike number (r ∷ listed) [] h = cc h
found_alike number (r ∷ listed) (e ∷ entries) h =
    let first = first_is r e listed entries h in
    let others = found_alike number listed entries first.others in
    elim (cases_Bool (nat_eq number r.0)) [
      | inl same ↦ rw (first.number, same) refl
      | inr other ↦ rw (first.number, other) others
    ]

-- the entry that is found is that of a refusal of the number
abbrev IsFound : ℕ → List Listed → Entry → Type 0
IsFound number listed e = (r : Listed) × Contains listed r × (r.0 ≡ number) × IsEntryOf r e.1.now

found_is : (number : ℕ) (listed : List Listed) (entries : List Entry) (e : Entry) → are_entries listed entries ≡ true → find (λ (e : Entry). eqb number e.0) entries ≡ Some e → IsFound number listed e
found_is number [] [] e h is = cc is
found_is number [] (x ∷ entries) e h is = cc h
found_is number (r ∷ listed) [] e h is = cc h
found_is number (r ∷ listed) (x ∷ entries) e h is =
    let first = first_is r x listed entries h in
    elim (cases_Bool (eqb number x.0)) [
      | inl same ↦
          let here : x ≡ e = cc (rw same at is) in
          let number : r.0 ≡ number = sym first.number ∙ sym (eqb-true number x.0 same) in
          (r, Contains-get_or (r ∷ listed) 0 r (omega arith), number, subst (λ (e : Entry). IsEntryOf r e.1.now) here first.entry)
      | inr other ↦
          let found = found_is number listed entries e first.others (rw other at is) in
          (found.0, Contains-append_right (r ∷ []) listed found.0 found.1, found.2, found.3)
    ]

-- what a search for a number finds among the entries of all refusals
abbrev Finds : ℕ → List Entry → Option (Bor Entry) → Type 0
Finds number entries found = option_map (λ (e : Bor Entry). e.now) found ≡ find (λ (e : Entry). eqb number e.0) entries

pub known_from : (number : ℕ) (entries : List Entry) (found : Option (Bor Entry)) → are_entries refusals entries ≡ true → Finds number entries found → is_some found ≡ is_refusal_number number
known_from number entries None h is = ap is_some is ∙ found_alike number refusals entries h
known_from number entries (Some e) h is = ap is_some is ∙ found_alike number refusals entries h

pub named_from : (number : ℕ) (entries : List Entry) (found : Option (Bor Entry)) (e : Bor Entry) → are_entries refusals entries ≡ true → Finds number entries found → found ≡ Some e
    → IsEntryFor number e.now.1.now
named_from number entries None e h is was = cc was
named_from number entries (Some x) e h is was =
    let same : x ≡ e = cc was in
    subst (λ (e : Bor Entry). IsEntryFor number e.now.1.now) same (found_is number refusals entries x.now h (sym is))

-- ---- the manual

each_more : (listed : List Listed) (entries : List (List ℕ)) (r : Listed) (entry : List ℕ) → AllZip IsEntryOf listed entries → IsEntryOf r entry
    → AllZip IsEntryOf (listed ++ r ∷ []) (entries ++ entry ∷ [])
each_more [] [] r entry each of = (of, tt)
each_more [] (e ∷ entries) r entry each of = absurd each
each_more (x ∷ listed) [] r entry each of = absurd each
each_more (x ∷ listed) (e ∷ entries) r entry each of = (each.0, each_more listed entries r entry each.1 of)

-- one entry more
one_more : (listed : List Listed) (r : Listed) (text more entry : List ℕ) → HasEntries listed text → IsEntryOf r entry → more ≡ text ++ 10 ∷ entry → HasEntries (listed ++ r ∷ []) more
one_more listed r text more entry before of is =
    let f : List ℕ → List ℕ = λ e. 10 ∷ e in
    record {
      entries = before.entries ++ entry ∷ [];
      each = each_more listed before.entries r entry before.each of;
      whole =
          is ∙ ap (λ t. t ++ 10 ∷ entry) before.whole ∙ append_assoc preface (flat_map f before.entries) (10 ∷ entry)
          ∙ ap (λ t. preface ++ t) (ap (λ t. flat_map f before.entries ++ t) (sym (append-nil (10 ∷ entry))) ∙ sym (flat_map-append f before.entries (entry ∷ [])));
    }

no_refusal : Listed
no_refusal = (0, [])

as_many : (listed : List Listed) (entries : List Entry) → are_entries listed entries ≡ true → length listed ≡ length entries
as_many [] [] h = refl
as_many [] (e ∷ entries) h = cc h
as_many (r ∷ listed) [] h = cc h
as_many (r ∷ listed) (e ∷ entries) h = ap suc (as_many listed entries (first_is r e listed entries h).others)

entry_at : (listed : List Listed) (entries : List Entry) → are_entries listed entries ≡ true → (i : ℕ) (none : Entry) → i < length entries → IsEntryOf (get_or listed i no_refusal) (get_or entries i none).1.now
entry_at [] [] h i none lt = absurd (omega arith)
entry_at [] (e ∷ entries) h i none lt = cc h
entry_at (r ∷ listed) [] h i none lt = cc h
entry_at (r ∷ listed) (e ∷ entries) h zero none lt = (first_is r e listed entries h).entry
entry_at (r ∷ listed) (e ∷ entries) h (suc i) none lt = entry_at listed entries (first_is r e listed entries h).others i none (omega arith)

-- the start of the manual
pub HasEntries-start : (text : List ℕ) → text ≡ preface → HasEntries [] text
HasEntries-start text is = record { entries = []; each = tt; whole = is ∙ sym (append-nil preface) }

-- the entry of the next refusal
pub HasEntries-more : (entries : List Entry) → are_entries refusals entries ≡ true → (i : ℕ) (none : Entry) (text between more : List ℕ) → i < length entries
    → HasEntries (take i refusals) text → between ≡ text ++ 10 ∷ [] → more ≡ between ++ (get_or entries i none).1.now → HasEntries (take (i + 1) refusals) more
HasEntries-more entries h i none text between more lt before line is =
    let entry = (get_or entries i none).1.now in
    let joined : more ≡ text ++ 10 ∷ entry = is ∙ ap (λ t. t ++ entry) line ∙ append_assoc text (10 ∷ []) entry in
    let next = one_more (take i refusals) (get_or refusals i no_refusal) text more entry before (entry_at refusals entries h i none lt) joined in
    subst (λ listed. HasEntries listed more) (sym (take_more refusals i no_refusal (omega (arith, as_many refusals entries h)))) next

-- its end
pub HasEntries-end : (entries : List Entry) → are_entries refusals entries ≡ true → (i : ℕ) (text : List ℕ) → length entries ≤ i → HasEntries (take i refusals) text → IsManual text
HasEntries-end entries h i text all whole = subst (λ listed. HasEntries listed text) (take_all i refusals (omega (arith, as_many refusals entries h))) whole
