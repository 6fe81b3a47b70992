-- What is noted at the end of a journal.
use Rattle.std.specs.Prelude.{ℕ, List, [], codes}
use Rattle.line_engine.specs.declared.run.RunCount.{RunCount}
use Rattle.office.specs.NoteText.{note, noted}

-- The note of a last line without a line feed, by the count of the run over the journal: behind the number of that line.
abbrev pub end_note : RunCount → List ℕ
end_note count = noted count.unended (note count.lines (codes "unended") [])
