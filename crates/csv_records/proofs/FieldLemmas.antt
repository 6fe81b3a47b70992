-- On the fields of a record: how many there are, text, places, and digits.
use Rattle.std.proofs.Common.{◌≡◌, ℕ, zero, suc, ◌+◌, ◌*◌, ◌^◌, ◌<◌, ◌≤◌, Bool, true, false, ◌&&◌, ◌==◌, List, [], ◌∷◌, length, get_or, take, drop, None, option_map, Result, Ok, Err, MatchResult, refl, ap, subst, inl, inr, Some, arith, add-one, lit<}
use Rattle.std.proofs.lemmas.Bool.{cases_Bool}
use Rattle.std.proofs.lemmas.Bool.Decides.{nat_tests}
use Rattle.std.proofs.lemmas.List.{take-append-drop}
use Rattle.std.proofs.lemmas.Str.{IsAscii-append, IsUtf8-from_ascii, IsUtf8-from_is_utf8, is_utf8-from_IsUtf8}
use Rattle.std.proofs.Math.Nat.{pow-suc, pow-le-pow_right}
use Rattle.std.specs.Char.{is_ascii_digit, is_ascii_uppercase}
use Rattle.std.specs.List.{list_all}
use Rattle.std.specs.Result.{result_ok}
use Rattle.std.specs.Str.{IsAscii, IsUtf8, is_utf8}
use Rattle.csv.specs.Records.{field_at}
use Rattle.rail_codes.specs.Place.{is_place}
use Rattle.csv_records.specs.Fields.{Record, place_in, text_in}

-- a record has a field at each place below its length
pub field_at-known : (fields : Record) (i : ℕ) → i < length fields → field_at fields i ≡ Some (get_or fields i [])
unfolding field_at
field_at-known [] i h = absurd (omega arith)
field_at-known (field ∷ fields) zero h = refl
field_at-known (field ∷ fields) (suc i) h = field_at-known fields i (omega arith)

-- what a reading of text answers
pub text_in-read : {S E : Type 0} (now : S → List ℕ) (Q : E → Type 0) (field : List ℕ) (read : Result S E)
    → MatchResult read (λ s. (now s ≡ field) × IsUtf8 field) (λ e. ¬ (IsUtf8 field) × Q e) → option_map now (result_ok read) ≡ text_in field
text_in-read now Q field (Ok s) h = rw (is_utf8-from_IsUtf8 field h.1) (ap Some h.0)
text_in-read now Q field (Err e) h = elim (cases_Bool (is_utf8 field)) [ inl text ↦ absurd (h.0 (IsUtf8-from_is_utf8 field text)) | inr other ↦ rw other refl ]

-- both parts of a test that is true
and_both : (a b : Bool) → (a && b) ≡ true → (a ≡ true) × (b ≡ true)
and_both true b h = (refl, h)
and_both false b h = cc h

-- characters that each pass a test of ASCII characters are ASCII
ascii_each : (test : ℕ → Bool) → ((c : ℕ) → test c ≡ true → c < 128) → (text : List ℕ) → list_all test text ≡ true → IsAscii text
ascii_each test low [] h i = omega arith
ascii_each test low (c ∷ text) h zero = low c (and_both (test c) (list_all test text) h).0
ascii_each test low (c ∷ text) h (suc i) = ascii_each test low text (and_both (test c) (list_all test text) h).1 i

low_letter : (c : ℕ) → is_ascii_uppercase c ≡ true → c < 128
low_letter c h = grind (arith, nat_tests)

low_digit : (c : ℕ) → is_ascii_digit c ≡ true → c < 128
low_digit c h = grind (arith, nat_tests)

-- a place is text
place_is_text : (field : List ℕ) → is_place field ≡ true → IsUtf8 field
place_is_text field h =
    let (long, digits) = and_both ((length field == 7) && list_all is_ascii_uppercase (take 2 field)) (list_all is_ascii_digit (drop 2 field)) h in
    let letters = (and_both (length field == 7) (list_all is_ascii_uppercase (take 2 field)) long).1 in
    let all = IsAscii-append (take 2 field) (drop 2 field) (ascii_each is_ascii_uppercase low_letter (take 2 field) letters)
    (ascii_each is_ascii_digit low_digit (drop 2 field) digits) in
    IsUtf8-from_ascii field (subst IsAscii (take-append-drop 2 field) all)

-- what is no text names no place
pub place_in-none : (field : List ℕ) → ¬ (IsUtf8 field) → place_in field ≡ None
place_in-none field n = elim (cases_Bool (is_place field)) [ inl shaped ↦ absurd (n (place_is_text field shaped)) | inr other ↦ rw other refl ]

-- the same, of what a reading of text answers
pub place_in-no_text : {A E : Type 0} (P : A → Type 0) (Q : E → Type 0) (field : List ℕ) (read : Result A E) → MatchResult read P (λ e. ¬ (IsUtf8 field) × Q e)
    → result_ok read ≡ None → place_in field ≡ None
place_in-no_text P Q field (Err e) h none = place_in-none field h.0
place_in-no_text P Q field (Ok x) h none = cc none

-- one more digit
pub one_more_digit : (n digit i : ℕ) → n < 10 ^ i → digit ≤ 9 → n * 10 + digit < 10 ^ (i + 1)
one_more_digit n digit i h d = omega (arith, pow-suc 10 i, ap (λ k. 10 ^ k) (add-one i))

-- the number of at most six digits
pub six_digits : (n i : ℕ) → n < 10 ^ i → i < 7 → n < 1000000
six_digits n i h s = let le : 10 ^ i ≤ 10 ^ 6 = pow-le-pow_right (lit< tt) {i = i} {j = 6} (omega arith) in omega arith

pub ruleset of_digits = (one_more_digit, six_digits)
