-- Wagon numbers: what is kept of a text, and the weighted digit sum.
use Rattle.std.proofs.Common.{◌≡◌, ℕ, zero, suc, ◌+◌, ◌-◌, ◌*◌, ◌%◌, ◌<◌, ◌≤◌, ◌↔◌, ◌++◌, ◌⊎◌, inl, inr, true, false, ◌==◌, List, [], ◌∷◌, length, get_or, take, drop, arith, ap, refl, sym, ◌∙◌, add-one, drop-cons, length-append, get_or-take, eqb-true, eq-eqb, append-nil, append_assoc, set}
use Rattle.std.proofs.Math.Nat.{mul-le-mul_left}
use Rattle.std.proofs.lemmas.Bool.Decides.{nat_tests}
use Rattle.std.proofs.lemmas.List.{drop_all, take_all, take_more_set}
use Rattle.std.proofs.lemmas.List.Folds.{list_all-append}
use Rattle.std.proofs.lemmas.List.Sums.{AllPass-from_list_all}
use Rattle.std.specs.List.{list_all}
use Rattle.std.specs.Char.{is_ascii_digit}
use Rattle.rail_codes.specs.WagonNumber.{is_no_separator, kept_characters, are_twelve_digits, value_of_digit, digit_sum, weighted_digit_sum}
use Rattle.rail_codes.specs.inner.WagonTexts.{are_twelve_digits-cases}

-- what is kept of the rest of a text, whose next character is kept
pub kept_characters-kept : (text : List ℕ) (i : ℕ) → i < length text → is_no_separator (get_or text i 0) ≡ true → kept_characters (drop i text) ≡ get_or text i 0 ∷ kept_characters (drop (i + 1) text)
kept_characters-kept text i within kept = rw (add-one, drop-cons text i 0 within, kept) refl

-- a thirteenth character is one too many
pub are_twelve_digits-more : (front rest : List ℕ) (c : ℕ) → length front ≡ 12 → are_twelve_digits (front ++ c ∷ rest) ≡ false
are_twelve_digits-more front rest c full = grind (arith, nat_tests, length-append {A = ℕ})

-- another character is no digit
pub are_twelve_digits-other : (front rest : List ℕ) (c : ℕ) → is_ascii_digit c ≡ false → are_twelve_digits (front ++ c ∷ rest) ≡ false
are_twelve_digits-other front rest c other = rw (list_all-append is_ascii_digit front (c ∷ rest), other) (grind (arith, nat_tests))

-- an element of a list of digits
pub list_all-digit : (xs : List ℕ) (i : ℕ) → list_all is_ascii_digit xs ≡ true → i < length xs → (48 ≤ get_or xs i 0) × (get_or xs i 0 ≤ 57)
list_all-digit xs i all within =
    let digit : is_ascii_digit (get_or xs i 0) ≡ true = AllPass-from_list_all is_ascii_digit xs all i 0 within in
    (grind (arith, nat_tests), grind (arith, nat_tests))

pub are_twelve_digits-digits : (xs : List ℕ) → length xs ≡ 12 → list_all is_ascii_digit xs ≡ true → are_twelve_digits xs ≡ true
are_twelve_digits-digits xs twelve all = grind (arith, nat_tests)

-- one more digit is written behind those so far
pub take-digit : (text digits : List ℕ) (i count : ℕ) → i < length text → is_no_separator (get_or text i 0) ≡ true → count < length digits → take count digits ++ kept_characters (drop i text) ≡ kept_characters text → take (count + 1) (set digits count (get_or text i 0)) ++ kept_characters (drop (i + 1) text) ≡ kept_characters text
take-digit text digits i count within kept room so_far =
    rw (take_more_set digits count (get_or text i 0) room, append_assoc) (ap (λ rest. take count digits ++ rest) (sym (kept_characters-kept text i within kept)) ∙ so_far)

pub list_all-take-digit : (digits : List ℕ) (count c : ℕ) → count < length digits → is_ascii_digit c ≡ true → list_all is_ascii_digit (take count digits) ≡ true → list_all is_ascii_digit (take (count + 1) (set digits count c)) ≡ true
list_all-take-digit digits count c room digit all = rw (take_more_set digits count c room, list_all-append, all, digit) refl

-- a text with a character too many, or with one that is no digit
pub are_twelve_digits-false : (text front : List ℕ) (i : ℕ) → i < length text → is_no_separator (get_or text i 0) ≡ true → front ++ kept_characters (drop i text) ≡ kept_characters text → (length front ≡ 12) ⊎ (is_ascii_digit (get_or text i 0) ≡ false) → are_twelve_digits (kept_characters text) ≡ false
are_twelve_digits-false text front i within kept so_far fault =
    let split = kept_characters-kept text i within kept in
    rw (← so_far, split) (elim fault [
      | inl full ↦ are_twelve_digits-more front _ _ full
      | inr other ↦ are_twelve_digits-other front _ _ other
    ])

-- a text whose digits have all been written
pub kept_characters-whole : (text digits : List ℕ) (i : ℕ) → length text ≤ i → length digits ≡ 12 → take 12 digits ++ kept_characters (drop i text) ≡ kept_characters text → kept_characters text ≡ digits
kept_characters-whole text digits i done twelve so_far =
    sym so_far ∙ rw (take_all 12 digits (omega arith), drop_all i text done) (append-nil digits)

-- the weighted digit sum of what is left from a digit of this weight on
abbrev pub weighted_from : ℕ → List ℕ → ℕ
weighted_from weight [] = 0
weighted_from weight (c ∷ cs) = digit_sum (weight * value_of_digit c) + weighted_from (3 - weight) cs

pub weighted_from-whole : (xs : List ℕ) → weighted_from 2 xs ≡ weighted_digit_sum xs
unfolding weighted_digit_sum
weighted_from-whole [] = refl
weighted_from-whole (c ∷ []) = omega arith
weighted_from-whole (c ∷ d ∷ cs) = omega (arith, weighted_from-whole cs)

-- the weighted digit sum of what is left, one digit further
pub weighted_from-drop : (weight : ℕ) (xs : List ℕ) (i : ℕ) → i < length xs → weighted_from weight (drop i xs) ≡ digit_sum (weight * (get_or xs i 0 - 48)) + weighted_from (3 - weight) (drop (i + 1) xs)
weighted_from-drop weight xs i within = rw (add-one, drop-cons xs i 0 within) refl

-- the weight of the digit n places further on
abbrev turned : ℕ → ℕ → ℕ
turned weight zero = weight
turned weight (suc n) = turned (3 - weight) n

-- the last of n + 1 digits adds its own weighted digit
weighted_from-last : (weight : ℕ) (xs : List ℕ) (n : ℕ) → length xs ≡ n + 1 → weighted_from weight xs ≡ weighted_from weight (take n xs) + digit_sum (turned weight n * (get_or xs n 0 - 48))
weighted_from-last weight [] n h = absurd (omega arith)
weighted_from-last weight (c ∷ []) zero h = omega arith
weighted_from-last weight (c ∷ d ∷ cs) zero h = absurd (omega arith)
weighted_from-last weight (c ∷ cs) (suc n) h = omega (arith, weighted_from-last (3 - weight) cs n (omega arith))

-- the weighted digit sum of twelve digits: that of the first eleven, and the last digit
pub weighted_digit_sum-twelve : (xs : List ℕ) → length xs ≡ 12 → weighted_digit_sum xs ≡ weighted_digit_sum (take 11 xs) + digit_sum (1 * (get_or xs 11 0 - 48))
weighted_digit_sum-twelve xs twelve = sym (weighted_from-whole xs) ∙ weighted_from-last 2 xs 11 twelve ∙ ap (λ (n : ℕ). n + digit_sum (1 * (get_or xs 11 0 - 48))) (weighted_from-whole (take 11 xs))

-- a digit of twelve, at a place of the first eleven
pub first_eleven-digit : (xs : List ℕ) (i : ℕ) → are_twelve_digits xs ≡ true → i < 11 → (get_or (take 11 xs) i 0 ≡ get_or xs i 0) × (48 ≤ get_or xs i 0) × (get_or xs i 0 ≤ 57)
first_eleven-digit xs i twelve first =
    let digits = are_twelve_digits-cases xs twelve in
    let within : i < length xs = omega arith in
    let range = list_all-digit xs i digits.1 within in
    (get_or-take 11 xs i 0 first, range.0, range.1)

-- a product of a digit with a weight
pub digit_sum-product : (weight digit : ℕ) → weight ≤ 2 → digit ≤ 9 → (weight * digit ≤ 18) × (digit_sum (weight * digit) ≤ 9)
digit_sum-product weight digit light low =
    let product : weight * digit ≤ 18 = omega (arith, mul-le-mul_left weight low) in
    (product, omega arith)

-- the sum so far and that of the rest, one digit further
pub summed-more : (weight sum : ℕ) (xs : List ℕ) (i : ℕ) → i < length xs → sum + weighted_from weight (drop i xs) ≡ weighted_from 2 xs → sum + digit_sum (weight * (get_or xs i 0 - 48)) + weighted_from (3 - weight) (drop (i + 1) xs) ≡ weighted_from 2 xs
summed-more weight sum xs i within so_far = omega (arith, weighted_from-drop weight xs i within)

-- the check digit completes the sum
pub completes : (sum digit : ℕ) → 48 ≤ digit → digit ≤ 57 → ((10 - sum % 10) % 10 == digit - 48 ≡ true) ↔ ((sum + digit_sum (1 * (digit - 48))) % 10 ≡ 0)
completes sum digit low high = (λ h. let same : (10 - sum % 10) % 10 ≡ digit - 48 = eqb-true _ _ h in omega arith, λ h. eq-eqb _ _ (omega arith))
