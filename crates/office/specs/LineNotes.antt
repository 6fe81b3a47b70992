-- What is noted of a line's bytes.
use Rattle.std.specs.Prelude.{ℕ, Bool, ◌&&◌, ◌||◌, ◌==◌, nat_eq, nat_lt, if◌then◌else◌, List, [], ◌∷◌, codes, Result, Ok, Err}
use Rattle.std.specs.List.{count_by, starts_with}
use Rattle.line_fields.specs.declared.fault.LineFault.{LineFault}
use Rattle.line_fields.specs.declared.fault.LineFault.TheVariants.{NotJson, OutOfMemory, NotAnObject, UnknownType, MissingField, BadField}
use Rattle.line_fields.specs.declared.command.Command.{Command}
use Rattle.office.specs.NoteText.{note, noted}
use Rattle.office.specs.declared.brackets.Reading.{Reading}
use Rattle.office.specs.declared.brackets.Reading.TheVariants.{Outside, Inside, Escaped}

-- ---- a byte order mark

-- the bytes that some editors put before a text
abbrev pub byte_order_mark : List ℕ
byte_order_mark = 239 ∷ 187 ∷ 191 ∷ []

abbrev pub is_marked : (line : ℕ) → (bytes : List ℕ) → Bool
is_marked line bytes = line == 1 && starts_with nat_eq bytes byte_order_mark

abbrev pub mark_note : (line : ℕ) → (bytes : List ℕ) → List ℕ
mark_note line bytes = noted (is_marked line bytes) (note line (codes "mark") [])

-- ---- an object or a list that is still open

-- What stands outside of JSON texts. A text begins and ends at a quotation mark; in it a backslash takes the next byte along.
abbrev pub outside_texts : Reading → List ℕ → List ℕ
outside_texts reading [] = []
outside_texts Outside (c ∷ bytes) = if c == 34 then outside_texts Inside bytes else c ∷ outside_texts Outside bytes
outside_texts Inside (c ∷ bytes) = if c == 92 then outside_texts Escaped bytes else if c == 34 then outside_texts Outside bytes else outside_texts Inside bytes
outside_texts Escaped (c ∷ bytes) = outside_texts Inside bytes

-- { or [
abbrev pub is_opening : ℕ → Bool
is_opening c = c == 123 || c == 91

-- } or ]
abbrev pub is_closing : ℕ → Bool
is_closing c = c == 125 || c == 93

-- outside of its texts it has more opening brackets than closing ones
abbrev pub is_left_open : (bytes : List ℕ) → Bool
is_left_open bytes = nat_lt (count_by is_closing (outside_texts Outside bytes)) (count_by is_opening (outside_texts Outside bytes))

-- the note of a line that is no JSON value and ends where an object or a list is open
abbrev pub open_note : (line : ℕ) → (bytes : List ℕ) → Result Command LineFault → List ℕ
open_note line bytes (Ok command) = []
open_note line bytes (Err OutOfMemory) = []
open_note line bytes (Err NotJson) = noted (is_left_open bytes) (note line (codes "open") [])
open_note line bytes (Err NotAnObject) = []
open_note line bytes (Err UnknownType) = []
open_note line bytes (Err (MissingField field)) = []
open_note line bytes (Err (BadField field fault)) = []
