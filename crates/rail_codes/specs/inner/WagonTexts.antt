-- That a wagon number's text is read as itself.
use Rattle.std.proofs.Common.{◌≡◌, ℕ, ◌%◌, true, ◌==◌, List, [], ◌∷◌, length, Ok, arith, ap, refl}
use Rattle.std.proofs.lemmas.Bool.Decides.{nat_tests}
use Rattle.std.specs.List.{list_all}
use Rattle.std.specs.Char.{is_ascii_digit}
use Rattle.rail_codes.specs.WagonNumber.{is_no_separator, kept_characters, are_twelve_digits, weighted_digit_sum, wagon_number_of, IsWagonNumber}

-- a digit is kept
pub is_kept-digit : (c : ℕ) → is_ascii_digit c ≡ true → is_no_separator c ≡ true
is_kept-digit c digit = grind (arith, nat_tests)

-- digits are kept as they are
pub kept_characters-digits : (text : List ℕ) → list_all is_ascii_digit text ≡ true → kept_characters text ≡ text
kept_characters-digits [] all = refl
kept_characters-digits (c ∷ cs) all =
    let first : is_ascii_digit c ≡ true = grind (arith, nat_tests) in
    let others : list_all is_ascii_digit cs ≡ true = grind (arith, nat_tests) in
    rw (is_kept-digit c first) (ap (λ t. c ∷ t) (kept_characters-digits cs others))

-- twelve digits have that length, and each is a digit
pub are_twelve_digits-cases : (xs : List ℕ) → are_twelve_digits xs ≡ true → (length xs ≡ 12) × (list_all is_ascii_digit xs ≡ true)
are_twelve_digits-cases xs twelve = (grind (arith, nat_tests), grind (arith, nat_tests))

-- a wagon number's text is read as itself
pub wagon_number_of-IsWagonNumber : (number : List ℕ) → IsWagonNumber number → wagon_number_of number ≡ Ok number
wagon_number_of-IsWagonNumber number valid =
    let kept : kept_characters number ≡ number = kept_characters-digits number (are_twelve_digits-cases number valid.0).1 in
    let sum : (weighted_digit_sum number % 10 == 0) ≡ true = grind (arith, nat_tests) in
    rw (kept, valid.0, sum) refl
