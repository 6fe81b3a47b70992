-- What a feed is given, and what it reports.
use Rattle.std.specs.Prelude.{◌≡◌, ◌≤◌, ℕ, Bool, false, List, [], All, IfSome, Option, Vec, length, string_bytes, vec_len}
use Rattle.std.specs.List.{sum_by}
use Rattle.std.specs.declared.alloc.Global.{Global}
use Rattle.line_engine.specs.Lines.{max_files}
use Rattle.commit_book.specs.Books.{BookValue}
use Rattle.commit_book.specs.Headline.{IsProved}
use Rattle.commit_book.specs.Setting.{Setting}
use Rattle.sessions.specs.Crossings.{IsFirstCrossing}
use Rattle.sessions.specs.FeedCounts.{AreFed, FileAnswers}
use Rattle.sessions.specs.FeedNotes.{AreFeedNotes}
use Rattle.sessions.specs.declared.feed_report.FeedNotes.{FeedNotes}
use Rattle.sessions.specs.declared.feed_report.FeedReport.{FeedReport}

-- 1 to 16 readers, of which none has failed, and a book without entries
pub record MayBeFed {R : Type 0} (has_failed : R → Bool) (readers : Vec R Global) (book : BookValue) : Type 0 where
  pub some : 1 ≤ vec_len readers
  pub few : vec_len readers ≤ max_files
  pub fresh : All (λ reader. has_failed reader ≡ false) readers.items
  pub no_entry : book.state.history ≡ []

-- the notes are those of all lines that led to this book, unless memory was refused for one
abbrev pub AreNotesFor : BookValue → FeedNotes → Type 0
AreNotesFor book notes = notes.is_lost ≡ false → ∥ AreFeedNotes book (string_bytes notes.text) ∥₁

-- What became of the files over these readers, and what their lines were answered. The book that is handed back is one of this
-- setting; the accepted lines of the files add up to its entries; and its history is as the headline says. Of two files that move
-- one wagon the report names the first.
pub record IsFeedReport {R : Type 0} (setting : Setting) (remaining : R → Option (List ℕ)) (has_failed : R → Bool) (readers : List R) (report : FeedReport R) : Type 0 where
  pub answers : List FileAnswers
  pub files : AreFed setting report.book.state.history remaining has_failed readers answers report.files.items
  pub entries : sum_by (λ file. file.accepted) report.files.items ≡ length report.book.state.history
  pub own : report.book.setting ≡ setting
  pub proved : IsProved setting report.book.state.history
  pub crossing : IsFirstCrossing answers report.crossing report.crossings_lost
  pub notes : IfSome report.notes (AreNotesFor report.book)
