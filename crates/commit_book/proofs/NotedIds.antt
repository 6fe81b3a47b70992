-- The ids of messages as they are noted.
use Rattle.std.proofs.Common.{◌≡◌, ◌∙◌, ◌<◌, ◌≤◌, ℕ, zero, suc, Bool, true, false, cond, List, [], ◌∷◌, ◌++◌, length, get_or, Option, Some, None, Result, Ok, Err, refl, sym, ap, arith, inl, inr, option_map, true≢false}
use Rattle.std.specs.Prelude.{◌&&◌, ◌-◌, nat_eq, slice_get}
use Rattle.std.specs.List.{All, find}
use Rattle.std.specs.List.Sorted.{IsBinarySearchResult, IsNonDecreasingBy, IsSearchInRange}
use Rattle.std.specs.Option.{option_or}
use Rattle.std.specs.Result.{result_ok}
use Rattle.std.specs.Ordering.{is_eq, nat_cmp, ordering_index}
use Rattle.std.specs.declared.cmp.Ordering.TheVariants.{Less, Equal, Greater}
use Rattle.std.specs.Cmp.Lexicographic.{pointwise, bytes_decides}
use Rattle.std.proofs.lemmas.Bool.{cases_Bool, cases_lt}
use Rattle.std.proofs.lemmas.Bool.Decides.{nat_tests}
use Rattle.std.proofs.lemmas.List.{get_or_append_left, get_or_push, length_push}
use Rattle.std.proofs.lemmas.List.Folds.{find-append}
use Rattle.std.proofs.lemmas.Option.{get_or_from_slice_get, slice_get-get_or}
use Rattle.price_checker.proofs.FirstBelow.{none_first}
use Rattle.rail_codes.specs.declared.message_id.MessageId.{MessageId}
use Rattle.commit_book.specs.inner.Ledger.{compare_ids, is_id}
use Rattle.commit_book.specs.inner.MessageIds.{IsNotedFor, company_id, index_among, index_by, with_note}
use Rattle.commit_book.specs.inner.Noted.{Ascend, index_at, index_in}
use Rattle.commit_book.specs.declared.rising_ids.Noted.{Noted}
use Rattle.commit_book.proofs.Ids.{id_same, id_self, id_ties}

abbrev has_number : ℕ → Noted → Bool
has_number number note = nat_eq note.number number

-- ---- ascending notes

rises : (notes : List Noted) → Ascend notes → (i j : ℕ) (d : Noted) → i ≤ j → j < length notes → (get_or notes i d).number ≤ (get_or notes j d).number
rises notes h i j d le within = elim (cases_lt i j) [
  | inl lt ↦ (let below = h i j d lt within in omega (arith, below))
  | inr ge ↦ (let same : i ≡ j = omega (arith, le, ge) in rw same omega arith)
]

index_rises : (a b n : ℕ) → a ≤ b → ordering_index (nat_cmp a n) ≤ ordering_index (nat_cmp b n)
index_rises a b n le = grind (arith, nat_tests, le)

pub comparisons_rise : (notes : List Noted) (number : ℕ) → Ascend notes → IsNonDecreasingBy (λ (note : Noted). ordering_index (nat_cmp note.number number)) notes
comparisons_rise notes number h i j d le within = index_rises (get_or notes i d).number (get_or notes j d).number number (rises notes h i j d le within)

tail_ascends : (note : Noted) (notes : List Noted) → Ascend (note ∷ notes) → Ascend notes
tail_ascends note notes h i j d lt within = h (suc i) (suc j) d (omega (arith, lt)) (omega (arith, within))

other_number : (a b number : ℕ) → a < b → b ≡ number → nat_eq a number ≡ false
other_number a b number lt is = grind (arith, nat_tests, lt, is)

same_number : (a number : ℕ) → a ≡ number → nat_eq a number ≡ true
same_number a number is = grind (arith, nat_tests, is)

find_there : (notes : List Noted) (number i : ℕ) (d : Noted) → Ascend notes → i < length notes → (get_or notes i d).number ≡ number → find (has_number number) notes ≡ Some (get_or notes i d)
find_there [] number i d h within is = absurd (omega (arith, within))
find_there (note ∷ notes) number zero d h within is = rw (same_number note.number number is) refl
find_there (note ∷ notes) number (suc i) d h within is =
    let below = h 0 (suc i) d (omega arith) within in
    rw (other_number note.number (get_or notes i d).number number below is) (find_there notes number i d (tail_ascends note notes h) (omega (arith, within)) is)

find_none : (notes : List Noted) (number : ℕ) → ((k : ℕ) (d : Noted) → k < length notes → nat_eq (get_or notes k d).number number ≡ false) → find (has_number number) notes ≡ None
find_none [] number h = refl
find_none (note ∷ notes) number h = rw (h 0 note (omega arith)) (find_none notes number (λ k d within. h (suc k) d (omega (arith, within))))

is_equal : (a n : ℕ) → nat_cmp a n ≡ Equal → a ≡ n
is_equal a n h = grind (arith, nat_tests, h)

is_less : (a n : ℕ) → nat_cmp a n ≡ Less → nat_eq a n ≡ false
is_less a n h = grind (arith, nat_tests, h)

is_greater : (a n : ℕ) → nat_cmp a n ≡ Greater → nat_eq a n ≡ false
is_greater a n h = grind (arith, nat_tests, h)

is_below : (a n : ℕ) → a < n → nat_eq a n ≡ false
is_below a n h = grind (arith, nat_tests, h)

-- where a search ends
pub placed : (notes : List Noted) (number : ℕ) (r : Result ℕ ℕ) → Ascend notes → IsSearchInRange r (length notes) → IsBinarySearchResult (λ (note : Noted). nat_cmp note.number number) notes r → index_at notes (result_ok r) ≡ index_in notes number
placed [] number (Ok k) h within equal = absurd (omega (arith, within))
placed (note ∷ notes) number (Ok k) h within equal =
    ap (option_map (λ (note : Noted). note.index)) (slice_get-get_or (note ∷ notes) k note within ∙ sym (find_there (note ∷ notes) number k note h within (is_equal (get_or (note ∷ notes) k note).number number (equal note))))
placed notes number (Err k) h within parted =
    let (before, after) = parted (comparisons_rise notes number h) in
    sym (ap (option_map (λ (note : Noted). note.index)) (find_none notes number (λ i d there. elim (cases_lt i k) [
      | inl lt ↦ is_less (get_or notes i d).number number (before i d (omega arith) lt)
      | inr ge ↦ is_greater (get_or notes i d).number number (after i d ge there)
    ])))

-- there is none above all numbers
pub above_missing : (notes : List Noted) (number : ℕ) → All (λ (note : Noted). note.number < number) notes → index_in notes number ≡ None
above_missing notes number below = ap (option_map (λ (note : Noted). note.index)) (find_none notes number (λ k d within. is_below (get_or notes k d).number number (below k d within)))

-- all are below what the last is below
pub all_below : (notes : List Noted) (number : ℕ) (last : Noted) → Ascend notes → slice_get notes (length notes - 1) ≡ Some last → last.number < number → All (λ (note : Noted). note.number < number) notes
all_below notes number last h there below k d within =
    let le = rises notes h k (length notes - 1) d (omega (arith, within)) (omega (arith, within)) in
    let top : get_or notes (length notes - 1) d ≡ last = get_or_from_slice_get notes (length notes - 1) last d there in
    let highest : (get_or notes (length notes - 1) d).number ≡ last.number = ap (λ (note : Noted). note.number) top in
    omega (arith, le, highest, below)

-- one more note behind those that are below it
pub push_ascends : (notes : List Noted) (note : Noted) → Ascend notes → All (λ (other : Noted). other.number < note.number) notes → Ascend (notes ++ note ∷ [])
push_ascends notes note h below i j d lt within = elim (cases_lt j (length notes)) [
  | inl inner ↦ rw (get_or_append_left notes (note ∷ []) d i (omega (arith, lt, inner)), get_or_append_left notes (note ∷ []) d j inner) (h i j d lt inner)
  | inr last ↦ (
      let here : length notes ≡ j = omega (arith, last, within, length_push notes note) in
      rw (get_or_append_left notes (note ∷ []) d i (omega (arith, lt, here)), get_or_push notes note d j here) (below i d (omega (arith, lt, here))))
]

-- ---- one more note, looked up

found_behind : (was : Option Noted) (note : Noted) (number : ℕ) → (nat_eq note.number number ≡ true → option_map (λ (one : Noted). one.index) was ≡ None) → option_map (λ (one : Noted). one.index) (option_or was (find (has_number number) (note ∷ []))) ≡ cond (nat_eq note.number number) (Some note.index) (option_map (λ (one : Noted). one.index) was)
found_behind None note number h = elim (cases_Bool (nat_eq note.number number)) [
  | inl here ↦ rw here refl
  | inr other ↦ rw other refl
]
found_behind (Some one) note number h = elim (cases_Bool (nat_eq note.number number)) [
  | inl here ↦ (let none = h here in cc none)
  | inr other ↦ rw other refl
]

its_number : (a b : ℕ) → nat_eq a b ≡ true → a ≡ b
its_number a b h = grind (arith, nat_tests, h)

pub index_with : (notes : Option (List Noted)) (note : Noted) (number : ℕ) → index_among notes note.number ≡ None → index_in (with_note notes note) number ≡ cond (nat_eq note.number number) (Some note.index) (index_among notes number)
index_with None note number h = found_behind None note number (λ _. refl)
index_with (Some notes) note number h =
    ap (option_map (λ (one : Noted). one.index)) (find-append (has_number number) notes (note ∷ []))
    ∙ found_behind (find (has_number number) notes) note number (λ same. ap (index_in notes) (sym (its_number note.number number same)) ∙ h)

-- ---- an id that is noted

abbrev stands_for : List ℕ → MessageId
stands_for company = record { company = company; number = 0 }

by_company : (id q : MessageId) → is_eq (compare_ids (company_id id) (company_id q)) ≡ true → id.company ≡ q.company
by_company id q h = ap (λ (one : MessageId). one.company) (id_same (company_id id) (company_id q) (sym (id_ties (company_id id) (company_id q)) ∙ h))

same_test : (id q : MessageId) → id.company ≡ q.company → is_eq (compare_ids id q) ≡ nat_eq id.number q.number
same_test id q same =
    let companies : pointwise nat_eq id.company q.company ≡ true = (bytes_decides id.company q.company).1 same in
    id_ties id q ∙ ap (λ b. b && nat_eq id.number q.number) companies

same_id : (a b : MessageId) → a ≡ b → is_id a b ≡ true
same_id a b h = ap (is_id a) (sym h) ∙ id_self a

other_test : (id q : MessageId) → is_eq (compare_ids (company_id id) (company_id q)) ≡ false → is_eq (compare_ids id q) ≡ false
other_test id q h = elim (cases_Bool (is_eq (compare_ids id q))) [
  | inl same ↦ (
      let one = id_same id q (sym (id_ties id q) ∙ same) in
      let equal : is_eq (compare_ids (company_id id) (company_id q)) ≡ true = id_ties (company_id id) (company_id q) ∙ same_id (company_id id) (company_id q) (ap company_id one) in
      absurd (true≢false (sym equal ∙ h)))
  | inr other ↦ other
]

or_there : (b : Bool) (index : ℕ) (was others : Option ℕ) → option_or (cond b (Some index) was) others ≡ cond b (Some index) (option_or was others)
or_there true index was others = refl
or_there false index was others = refl

-- an id whose note is pushed behind those of its company
pub noted_rising : (rising now : MessageId → Option (List Noted)) (others : MessageId → Option ℕ) (id : MessageId) (note : Noted) → note.number ≡ id.number → index_by rising others id ≡ None
    → ((q : MessageId) → now q ≡ cond (is_eq (compare_ids (company_id id) q)) (Some (with_note (rising (company_id id)) note)) (rising q))
    → IsNotedFor (index_by rising others) (index_by now others) id note.index
noted_rising rising now others id note its none pushed q = elim (cases_Bool (is_eq (compare_ids (company_id id) (company_id q)))) [
  | inl same ↦ (
      let company = by_company id q same in
      let one : company_id id ≡ company_id q = ap (λ (text : List ℕ). stands_for text) company in
      let there : now (company_id q) ≡ Some (with_note (rising (company_id id)) note) = pushed (company_id q) ∙ ap (λ b. cond b (Some (with_note (rising (company_id id)) note)) (rising (company_id q))) same in
      let new : index_among (rising (company_id id)) note.number ≡ None = ap (index_among (rising (company_id id))) its ∙ none_first (index_among (rising (company_id id)) id.number) (others id) none in
      let test : nat_eq note.number q.number ≡ is_eq (compare_ids id q) = ap (λ n. nat_eq n q.number) its ∙ sym (same_test id q company) in
      ap (λ o. option_or (index_among o q.number) (others q)) there
      ∙ ap (λ o. option_or o (others q)) (index_with (rising (company_id id)) note q.number new)
      ∙ or_there (nat_eq note.number q.number) note.index (index_among (rising (company_id id)) q.number) (others q)
      ∙ ap (λ (company : MessageId). cond (nat_eq note.number q.number) (Some note.index) (option_or (index_among (rising company) q.number) (others q))) one
      ∙ ap (λ b. cond b (Some note.index) (index_by rising others q)) test)
  | inr apart ↦ (
      let there : now (company_id q) ≡ rising (company_id q) = pushed (company_id q) ∙ ap (λ b. cond b (Some (with_note (rising (company_id id)) note)) (rising (company_id q))) apart in
      ap (λ o. option_or (index_among o q.number) (others q)) there
      ∙ sym (ap (λ b. cond b (Some note.index) (index_by rising others q)) (other_test id q apart)))
]
