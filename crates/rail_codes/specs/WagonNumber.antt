-- A wagon's number, as a text of digits.
use Rattle.std.specs.Prelude.{◌≡◌, ℕ, ◌+◌, ◌-◌, ◌*◌, ◌/◌, ◌%◌, Bool, not, ◌&&◌, ◌||◌, ◌==◌, if◌then◌else◌, List, [], ◌∷◌, length, filter, Result, Ok, Err, IsTrue}
use Rattle.std.specs.List.{list_all}
use Rattle.std.specs.Char.{is_ascii_digit}
use Rattle.rail_codes.specs.declared.code_fault.CodeFault.{CodeFault}
use Rattle.rail_codes.specs.declared.code_fault.CodeFault.TheVariants.{NotTwelveDigits, CheckDigit}

-- A text is the list of its UTF-8 bytes, and a digit is an ASCII digit.

-- neither a space nor a hyphen
abbrev pub is_no_separator : ℕ → Bool
is_no_separator c = not (c == 32 || c == 45)

-- a text without its spaces and hyphens, wherever they stand
abbrev pub kept_characters : List ℕ → List ℕ
kept_characters text = filter is_no_separator text

abbrev pub are_twelve_digits : List ℕ → Bool
are_twelve_digits characters = length characters == 12 && list_all is_ascii_digit characters

-- the number that an ASCII digit stands for
abbrev pub value_of_digit : ℕ → ℕ
value_of_digit c = c - 48

-- the two decimal digits of a product, which is below 100, added
abbrev pub digit_sum : ℕ → ℕ
digit_sum product = product / 10 + product % 10

-- the digits of 2 * d1, d2, 2 * d3, d4, .., all added: of each two digits the first is doubled
unfoldable pub weighted_digit_sum : List ℕ → ℕ
weighted_digit_sum [] = 0
weighted_digit_sum (c ∷ []) = digit_sum (2 * value_of_digit c)
weighted_digit_sum (c ∷ d ∷ cs) = digit_sum (2 * value_of_digit c) + digit_sum (value_of_digit d) + weighted_digit_sum cs

-- twelve digits whose weighted digit sum is a multiple of ten
abbrev pub IsWagonNumber : List ℕ → Type 0
IsWagonNumber characters = IsTrue (are_twelve_digits characters) × (weighted_digit_sum characters % 10 ≡ 0)

-- what a text is read as: its twelve digits, or the first fault
abbrev pub wagon_number_of : List ℕ → Result (List ℕ) CodeFault
wagon_number_of text =
    let characters = kept_characters text in
    if not (are_twelve_digits characters)
    then Err NotTwelveDigits
    else if weighted_digit_sum characters % 10 == 0 then Ok characters else Err CheckDigit
