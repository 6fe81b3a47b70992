-- A short text in a field of fixed size.
use Rattle.std.specs.Prelude.{◌≡◌, ℕ, ◌-◌, ◌<◌, Bool, ◌==◌, ◌++◌, List, length, replicate, slice_index}
use Rattle.std.specs.List.{before_first}
use Rattle.std.specs.Str.{IsAscii}

abbrev pub is_nul : ℕ → Bool
is_nul c = c == 0

abbrev pub HasNoNul : List ℕ → Type 0
HasNoNul text = (i : ℕ) → i < length text → 0 < slice_index text i

-- a text in a field of so many bytes, with 0 behind it
abbrev pub padded : ℕ → List ℕ → List ℕ
padded room text = text ++ replicate (room - length text) 0

-- the text in a field
abbrev pub text_in : List ℕ → List ℕ
text_in bytes = before_first is_nul bytes

-- behind the text stands nothing but 0
abbrev pub IsPadded : ℕ → List ℕ → Type 0
IsPadded room bytes = (length bytes ≡ room) × IsAscii bytes × (padded room (text_in bytes) ≡ bytes)
