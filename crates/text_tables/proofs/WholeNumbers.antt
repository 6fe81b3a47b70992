-- A whole number is a number of JSON.
use Rattle.std.proofs.Common.{◌≡◌, ℕ, zero, suc, ◌+◌, ◌%◌, ◌^◌, ◌<◌, ◌≤◌, true, false, ◌&&◌, ◌==◌, nat_lt, List, [], ◌∷◌, length, length-append, get_or, Some, decimal, option_and_then, refl, sym, ap, ◌∙◌, arith, inl, inr}
use Rattle.std.specs.Prelude.{slice_index}
use Rattle.std.specs.Char.{is_ascii_digit}
use Rattle.std.specs.List.{list_all, prefix_len}
use Rattle.std.proofs.lemmas.Bool.{and_from, and_parts, and_right, cases_eq, eq-eqb, leb-true, le-leb, lt-ltb, ne_eqb, not-true, not_from_false, true≢false}
use Rattle.std.proofs.lemmas.Fmt.{decimal_by_steps_wide, decimal_digit, decimal_is_IsNumeral_wide}
use Rattle.std.proofs.lemmas.List.{drop_all, get_or_append_left}
use Rattle.std.proofs.lemmas.Str.Parse.{digit_at}
use Rattle.json.specs.Print.{IsNumber}
use Rattle.json.specs.Word.{after_exponent, after_fraction, after_number, after_whole}
use Rattle.text_tables.specs.JsonRows.{is_whole_number}
use Rattle.text_tables.proofs.Controls.{is_clean}

digits_count : (ds : List ℕ) → list_all is_ascii_digit ds ≡ true → prefix_len is_ascii_digit ds ≡ length ds
digits_count [] h = refl
digits_count (d ∷ ds) h = let p = and_parts (is_ascii_digit d) _ h in rw (p.0, digits_count ds p.1) (omega arith)

-- digits have no control character
pub clean-digits : (ds : List ℕ) → list_all is_ascii_digit ds ≡ true → is_clean ds ≡ true
clean-digits [] h = refl
clean-digits (d ∷ ds) h =
    let p = and_parts (is_ascii_digit d) (list_all is_ascii_digit ds) h in
    let low : 48 ≤ d = leb-true 48 d (and_parts _ _ p.0).0 in
    and_from _ _ (le-leb 32 d (omega arith)) (clean-digits ds p.1)

-- digits alone, of which the first is no 0
many_digits : (d : ℕ) (ds : List ℕ) → list_all is_ascii_digit (d ∷ ds) ≡ true → (d ≡ 48 → ⊥) → after_whole (d ∷ ds) ≡ Some []
many_digits d ds h other =
    let count = digits_count (d ∷ ds) h in
    rw (ne_eqb d 48 other, count, ne_eqb (suc (length ds)) 0 (λ e. omega arith)) (ap Some (drop_all (suc (length ds)) (d ∷ ds) (omega arith)))

-- a 0 alone
lone_zero : (d : ℕ) (ds : List ℕ) → d ≡ 48 → (nat_lt 1 (length (d ∷ ds)) && (d == 48)) ≡ false → after_whole (d ∷ ds) ≡ Some []
lone_zero d [] is none = rw is refl
lone_zero d (next ∷ ds) is none =
    let both = and_from _ _ (lt-ltb 1 (length (d ∷ next ∷ ds)) (omega arith)) (eq-eqb d 48 is) in
    absurd (true≢false (sym both ∙ none))

whole : (d : ℕ) (ds : List ℕ) → is_whole_number (d ∷ ds) ≡ true → after_whole (d ∷ ds) ≡ Some []
whole d ds h =
    let p = and_parts (list_all is_ascii_digit (d ∷ ds)) _ h in
    elim (cases_eq d 48) [ inl is ↦ lone_zero d ds is (not-true _ p.1) | inr other ↦ many_digits d ds p.0 other ]

pub IsNumber-whole : (cell : List ℕ) → (length cell ≡ 0 → ⊥) → is_whole_number cell ≡ true → IsNumber cell
unfolding after_number
IsNumber-whole [] some h = absurd (some refl)
IsNumber-whole (d ∷ ds) some h =
    let p = and_parts (list_all is_ascii_digit (d ∷ ds)) _ h in
    let low : 48 ≤ d = leb-true 48 d (and_parts _ _ (and_parts (is_ascii_digit d) _ p.0).0).0 in
    let no_minus : (d == 45) ≡ false = ne_eqb d 45 (λ e. omega arith) in
    rw no_minus (ap (λ o. option_and_then after_exponent (option_and_then after_fraction o)) (whole d ds h))

-- ---- what `decimal` writes

are_digits : (ds : List ℕ) → ((k : ℕ) → k < length ds → (48 ≤ get_or ds k 0) × (get_or ds k 0 ≤ 57)) → list_all is_ascii_digit ds ≡ true
are_digits [] h = refl
are_digits (d ∷ ds) h =
    let first = h 0 (omega arith) in
    and_from _ _ (and_from _ _ (le-leb 48 d first.0) (le-leb d 57 first.1)) (are_digits ds (λ k lt. h (suc k) (omega arith)))

record BeginsWell (n : ℕ) (ds : List ℕ) : Type 0 where
  some : 0 < length ds
  first : 0 < n → 48 < get_or ds 0 0

begins_well : (n : ℕ) → n < 10 ^ 64 → BeginsWell n (decimal n)
begins_well n small =
    decimal_by_steps_wide BeginsWell (λ m low. record { some = omega arith; first = λ some. omega arith })
    (λ m ds low h. record {
      some = omega (arith, length-append ds ((48 + m % 10) ∷ []));
      first = λ some. omega (arith, get_or_append_left ds ((48 + m % 10) ∷ []) 0 0 h.some, h.first (omega arith));
    }) n small

no_first_zero : (n : ℕ) → n < 10 ^ 64 → (nat_lt 1 (length (decimal n)) && (slice_index (decimal n) 0 == 48)) ≡ false
no_first_zero zero small = let e = decimal_digit 0 (omega arith) in ap (λ ds. nat_lt 1 (length ds) && (slice_index ds 0 == 48)) e
no_first_zero (suc n) small = and_right _ _ (ne_eqb (get_or (decimal (suc n)) 0 0) 48 (λ e. omega (arith, (begins_well (suc n) small).first (omega arith))))

pub decimal_is_whole : (n : ℕ) → n < 10 ^ 64 → is_whole_number (decimal n) ≡ true
decimal_is_whole n small =
    and_from _ _ (are_digits (decimal n) (λ k lt. digit_at (decimal n) k (decimal_is_IsNumeral_wide n small).0.1 lt)) (not_from_false _ (no_first_zero n small))

pub IsNumber-decimal : (n : ℕ) → n < 10 ^ 64 → IsNumber (decimal n)
IsNumber-decimal n small = IsNumber-whole (decimal n) (λ e. omega (arith, (begins_well n small).some)) (decimal_is_whole n small)

pub clean-decimal : (n : ℕ) → n < 10 ^ 64 → is_clean (decimal n) ≡ true
clean-decimal n small = clean-digits (decimal n) (and_parts (list_all is_ascii_digit (decimal n)) _ (decimal_is_whole n small)).0
