-- The value of a decimal number, in millionths: whole, since it has at most six digits behind its point.
use Rattle.std.specs.Prelude.{ℕ, ℤ, pos, neg_ℤ, Bool, false, ◌+◌, ◌-◌, ◌*◌, ◌^◌, ◌==◌, if◌then◌else◌, List, [], ◌∷◌, length, take, drop, Option, Some, None, position}
use Rattle.std.specs.List.{fold}
use Rattle.place_names.specs.Texts.{after_sign}

-- the number that digits are
abbrev pub number_of : (digits : List ℕ) → ℕ
number_of digits = fold (λ n d. n * 10 + (d - 48)) 0 digits

-- the millionths that digits behind a point are
abbrev pub fraction_of : (digits : List ℕ) → ℕ
fraction_of digits = number_of digits * 10 ^ (6 - length digits)

-- a number without a sign, with its point at k or without one
abbrev pub size_at : List ℕ → (point : Option ℕ) → ℕ
size_at text None = number_of text * 1000000
size_at text (Some k) = number_of (take k text) * 1000000 + fraction_of (drop (k + 1) text)

abbrev pub size_of : List ℕ → ℕ
size_of text = size_at text (position (λ b. b == 46) text)

abbrev pub is_negative : List ℕ → Bool
is_negative [] = false
is_negative (first ∷ rest) = first == 45

-- a decimal number such as 13.369 or -4.5: 13369000 or -4500000 millionths
abbrev pub millionths : List ℕ → ℤ
millionths text = if is_negative text then neg_ℤ (pos (size_of (after_sign text))) else pos (size_of (after_sign text))
