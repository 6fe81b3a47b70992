-- The lines of notes.
use Rattle.std.specs.Prelude.{◌≡◌, ℕ, List, [], ◌∷◌, ◌++◌, Option, codes}
use Rattle.serde_json.specs.Data.{no_members}
use Rattle.journal_notes.specs.NoteLine.{IsNoteText, object_text}
use Rattle.journal_notes.specs.declared.note.Note.{Note}

-- the line of a note, with its line feed
pub record IsNoteLine (file : Option ℕ) (line : ℕ) (note : Note) (text : List ℕ) : Type 0 where
  pub object : List ℕ
  pub is_object : IsNoteText file line note object
  pub whole : text ≡ object ++ 10 ∷ []

-- the line of a line for whose notes memory was refused
abbrev pub memory_line : (file : Option ℕ) → (line : ℕ) → List ℕ
memory_line file line = object_text file line (codes "memory") no_members ++ 10 ∷ []
