-- What was given to the arguments of a word, and what a value says.
use Rattle.std.specs.Prelude.{◌≡◌, ◌<◌, ◌≤◌, ◌^◌, ℕ, Bool, true, false, List, [], map, codes, Option, Some, None, Result, Ok, option_map, unwrap_or}
use Rattle.std.specs.Borrow.{Bor}
use Rattle.std.specs.Str.Parse.{IsNumeral, digits_value, without_leading_plus}
use Rattle.clap.specs.Matches.{found_of}
use Rattle.clap.specs.Walk.{Row, all_of, first_of, one_of, rows_of}
use Rattle.clap.specs.declared.parser.matches.ArgMatches.{ArgMatches}
use Rattle.rail_codes.specs.declared.code_fault.CodeFault.{CodeFault}

abbrev pub Text : Type 0
Text = List ℕ

-- for each argument of a word its name and the values that were given to it, or those that it has if none is
abbrev pub Given : Type 0
Given = List Row

-- the same of what `clap` matched
unfoldable pub given_in : ArgMatches → Given
given_in matches = rows_of (found_of matches)

-- the value of an argument; the first of several
unfoldable pub value_of : (name : Text) → Given → Option Text
value_of name given = first_of name given

-- the values of an argument, in the order in which they were given
unfoldable pub values_of : (name : Text) → Given → List Text
values_of name given = unwrap_or (all_of name given) []

-- the value of an argument, as `clap` reads it if it is no text
unfoldable pub read_value_of : (name : Text) → Given → Option Text
read_value_of name given = one_of name given

-- the value of an option without which `clap` refuses the word
abbrev pub needed_value : (name : Text) → Given → Text
needed_value name given = unwrap_or (value_of name given) []

-- the text that is lent, and the texts
abbrev pub lent : Option (Bor Text) → Option Text
lent = option_map (λ text. text.now)

abbrev pub all_lent : List (Bor Text) → List Text
all_lent = map (λ text. text.now)

-- what a text is read as, if there is one
abbrev pub IsReadAs : {C : Type 0} → (read : Text → Result C CodeFault) → Option Text → Option C → Type 0
IsReadAs read text code = option_map read text ≡ option_map (λ c. Ok c) code

-- and what each of some texts is read as, in their order
abbrev pub AreReadAs : {C : Type 0} → (read : Text → Result C CodeFault) → List Text → List C → Type 0
AreReadAs read texts found = map read texts ≡ map (λ c. Ok c) found

-- the number that digits say, behind a plus or not
abbrev pub number_in : Text → ℕ
number_in text = digits_value 10 (without_leading_plus text)

-- a text says a whole number that fits 64 bits
abbrev pub SaysNumber : Text → Type 0
SaysNumber text = IsNumeral 10 (without_leading_plus text) × (number_in text < 2 ^ 64)

-- If the value of an option says a whole number from 1 to `most`, it is this one. `clap` refuses other values.
pub record IsNumberOf (name : Text) (most : ℕ) (given : Given) (n : ℕ) : Type 0 where
  pub is : (text : Text) → read_value_of name given ≡ Some text → SaysNumber text → 1 ≤ number_in text → number_in text ≤ most → n ≡ number_in text

-- The same of an option that has no value if none is given: then there is no number.
pub record IsOptionalNumberOf (name : Text) (given : Given) (n : Option ℕ) : Type 0 where
  pub is : (text : Text) → read_value_of name given ≡ Some text → SaysNumber text → n ≡ Some (number_in text)
  pub missing : read_value_of name given ≡ None → n ≡ None

-- Whether an option was given that takes no value: `clap` gives it the value `true` then, else `false`.
pub record IsFlagOf (name : Text) (given : Given) (flag : Bool) : Type 0 where
  pub on : read_value_of name given ≡ Some (codes "true") → flag ≡ true
  pub off : read_value_of name given ≡ Some (codes "false") → flag ≡ false
  pub missing : read_value_of name given ≡ None → flag ≡ false
