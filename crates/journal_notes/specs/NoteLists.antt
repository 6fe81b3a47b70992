-- Notes as lists.
use Rattle.std.specs.Prelude.{Bool, List, [], ◌∷◌, if◌then◌else◌}
use Rattle.journal_notes.specs.declared.note.Note.{Note}

-- a note where a condition holds
abbrev pub noted : Bool → Note → List Note
noted holds note = if holds then note ∷ [] else []
