-- When a book, or a run, has become nine tenths full.
use Rattle.std.specs.Prelude.{ℕ, ◌*◌, Bool, ◌&&◌, not, nat_le, List, ◌++◌, codes, decimal}
use Rattle.reply_texts.specs.Words.{next_word}
use Rattle.line_engine.specs.Lines.{max_input_lines}
use Rattle.office.specs.NoteText.{note, noted}

-- whether a count is nine tenths of the most that it may be, or more
abbrev pub is_nearly_full : (count most : ℕ) → Bool
is_nearly_full count most = nat_le (9 * most) (10 * count)

-- whether it has become so between two counts
abbrev pub becomes_nearly_full : (before after most : ℕ) → Bool
becomes_nearly_full before after most = not (is_nearly_full before most) && is_nearly_full after most

-- the note of how many there are, and of the most that there may be
abbrev pub fullness_note : (line : ℕ) → (word : List ℕ) → (before after most : ℕ) → List ℕ
fullness_note line word before after most =
    noted (becomes_nearly_full before after most) (note line word (next_word (decimal after) ++ next_word (decimal most)))

-- the entries of the book before the line and after it
abbrev pub entries_note : (line before after most : ℕ) → List ℕ
entries_note line before after most = fullness_note line (codes "entries") before after most

-- the lines of the run: up to the last line before this one that wasn't blank, and up to this one
abbrev pub lines_note : (line before : ℕ) → List ℕ
lines_note line before = fullness_note line (codes "lines") before line max_input_lines
