-- How a text that others chose is shown: nothing in it reaches a terminal as a control character.
use Rattle.std.specs.Prelude.{ℕ, Bool, ◌&&◌, ◌==◌, ◌+◌, ◌/◌, ◌%◌, not, nat_le, nat_lt, if◌then◌else◌, List, [], ◌∷◌, ◌++◌, length, take, Option, Some, None, codes}
use Rattle.std.specs.Str.{is_utf8}

-- a printable ASCII character that is neither a quotation mark nor a backslash
abbrev pub is_plain : ℕ → Bool
is_plain byte = nat_le 32 byte && nat_le byte 126 && not (byte == 34) && not (byte == 92)

-- the two bytes of a Latin letter from U+00C0 to U+023F
abbrev pub is_letter : ℕ → ℕ → Bool
is_letter first second = nat_le 195 first && nat_le first 200 && is_utf8 (first ∷ second ∷ [])

-- a number below 16 as 0 to 9 or A to F
abbrev pub hex_digit : ℕ → ℕ
hex_digit digit = if nat_lt digit 10 then 48 + digit else 55 + digit

-- a byte that doesn't stand for itself
abbrev pub escaped : ℕ → List ℕ
escaped byte = 92 ∷ 120 ∷ hex_digit (byte / 16) ∷ hex_digit (byte % 16) ∷ []

abbrev pub shown_byte : ℕ → List ℕ
shown_byte byte = if is_plain byte then byte ∷ [] else escaped byte

-- a text: plain characters and Latin letters as they are, all other bytes as \xHH
unfoldable pub shown : List ℕ → List ℕ
shown [] = []
shown (byte ∷ []) = shown_byte byte
shown (first ∷ second ∷ rest) = if is_letter first second then first ∷ second ∷ shown rest else shown_byte first ++ shown (second ∷ rest)

-- the letter of two bytes with which a text begins
abbrev pub first_letter : List ℕ → Option (List ℕ)
first_letter [] = None
first_letter (byte ∷ []) = None
first_letter (first ∷ second ∷ rest) = if is_letter first second then Some (first ∷ second ∷ []) else None

-- two dots behind a field that has more than 60 bytes
abbrev pub dots : List ℕ → List ℕ
dots field = if nat_le (length field) 60 then [] else codes ".."

-- a field in quotation marks: its first 60 bytes, and two dots where there are more
abbrev pub quoted : List ℕ → List ℕ
quoted field = codes "\"" ++ shown (take 60 field) ++ codes "\"" ++ dots field
