-- What a name of a place and a coordinate are, as texts.
use Rattle.std.specs.Prelude.{ℕ, Bool, ◌&&◌, ◌+◌, ◌==◌, if◌then◌else◌, not, nat_le, List, [], ◌∷◌, length, take, drop, chars, Option, Some, None, position}
use Rattle.std.specs.Char.{is_ascii_digit, is_control}
use Rattle.std.specs.List.{list_all, list_any}

-- at most 60 bytes without a control character, such as a tab or a line feed; it may be empty
abbrev pub is_place_name : (text : List ℕ) → Bool
is_place_name text = nat_le (length text) 60 && not (list_any is_control (chars text))

-- 1 to so many digits
abbrev pub are_digits : (most : ℕ) → List ℕ → Bool
are_digits most text = nat_le 1 (length text) && nat_le (length text) most && list_all is_ascii_digit text

-- a text behind a minus sign, where it begins with one
abbrev pub after_sign : List ℕ → List ℕ
after_sign [] = []
after_sign (first ∷ rest) = if first == 45 then rest else first ∷ rest

-- 1 to 7 digits; behind them, where there is a point, 1 to 6 digits
abbrev pub has_digits : List ℕ → (point : Option ℕ) → Bool
has_digits text None = are_digits 7 text
has_digits text (Some k) = are_digits 7 (take k text) && are_digits 6 (drop (k + 1) text)

abbrev pub is_unsigned : List ℕ → Bool
is_unsigned text = has_digits text (position (λ b. b == 46) text)

-- a decimal number such as 13.369, -4.5 or 52, without an exponent
abbrev pub is_decimal : List ℕ → Bool
is_decimal text = is_unsigned (after_sign text)
