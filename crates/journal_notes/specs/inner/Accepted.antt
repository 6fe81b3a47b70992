-- The notes of a commit, by the orders that waited before it.
use Rattle.std.specs.Prelude.{ℕ, List, ◌++◌, map}
use Rattle.std.specs.List.{flat_map}
use Rattle.operating_db.specs.Commits.{Pair}
use Rattle.operating_db.specs.Office.{Office}
use Rattle.journal_notes.specs.OfficeNotes.{complete_notes, promised_note}
use Rattle.journal_notes.specs.declared.note.Note.{Note}

-- the notes of a commit, where the orders of these names waited before
abbrev pub commit_notes_for : (names : List (List ℕ)) → (after : Office) → List Pair → List Note
commit_notes_for names after pairs = map promised_note pairs ++ flat_map (complete_notes after) names
