-- What came of a note of a company's message.
use Rattle.std.specs.Prelude.{◌≡◌, ◌++◌, ◌∷◌, [], List, None}
use Rattle.commit_book.specs.inner.Noted.{index_in}
use Rattle.commit_book.specs.declared.rising_ids.Noted.{Noted}
use Rattle.commit_book.specs.declared.rising_ids.NoteEntry.{NoteEntry}
use Rattle.commit_book.specs.declared.rising_ids.NoteEntry.TheVariants.{Entered, Within}

-- it is the last one, and its number is new; or nothing changes, and this is what is noted for its number
abbrev pub IsNoteEntry : (old : List Noted) → Noted → NoteEntry → (new : List Noted) → Type 0
IsNoteEntry old note Entered new = (index_in old note.number ≡ None) × (new ≡ old ++ note ∷ [])
IsNoteEntry old note (Within known) new = (known ≡ index_in old note.number) × (new ≡ old)
