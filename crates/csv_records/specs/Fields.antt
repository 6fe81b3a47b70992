-- The fields of a record of CSV, and what one field says: a text, a place or a whole number.
use Rattle.std.specs.Prelude.{ℕ, Bool, ◌||◌, ◌==◌, ◌+◌, ◌*◌, ◌-◌, if◌then◌else◌, fold, nat_eq, nat_lt, List, length, Option, Some, None}
use Rattle.std.specs.List.{list_all}
use Rattle.std.specs.Char.{is_ascii_digit}
use Rattle.std.specs.Cmp.Lexicographic.{pointwise}
use Rattle.std.specs.Str.{is_utf8}
use Rattle.rail_codes.specs.Place.{is_place}

-- a record of CSV: its fields, each by its bytes
abbrev pub Record : Type 0
Record = List (List ℕ)

-- the most digits of a whole number
abbrev pub max_number_digits : ℕ
max_number_digits = 7

infixl 10 ◌>>=◌
-- a value, and what follows from it, if both are there
abbrev pub ◌>>=◌ : {A B : Type 0} → Option A → (A → Option B) → Option B
None >>= f = None
(Some x) >>= f = f x

abbrev pub is_text : List ℕ → List ℕ → Bool
is_text text field = pointwise nat_eq field text

-- a field as text, where its bytes are UTF-8
abbrev pub text_in : List ℕ → Option (List ℕ)
text_in field = if is_utf8 field then Some field else None

abbrev pub place_in : List ℕ → Option (List ℕ)
place_in field = if is_place field then Some field else None

-- the number that ASCII digits spell
abbrev pub spelled_number : List ℕ → ℕ
spelled_number digits = fold (λ n digit. n * 10 + (digit - 48)) 0 digits

abbrev pub digits_in : List ℕ → Option ℕ
digits_in field = if list_all is_ascii_digit field then Some (spelled_number field) else None

-- the whole number that 1 to 7 digits spell
abbrev pub whole_number_in : List ℕ → Option ℕ
whole_number_in field = if (length field == 0) || nat_lt max_number_digits (length field) then None else digits_in field
