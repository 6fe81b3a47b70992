-- The text of a report on files that were fed to a book.
use Rattle.std.specs.Prelude.{◌≡◌, ◌+◌, ℕ, List, [], ◌∷◌, ◌++◌, length, codes, decimal, Option, Some, None}
use Rattle.commit_book.specs.Books.{BookValue, present_office}
use Rattle.dispatch_sheet.specs.Sheet.{IsSheetText}
use Rattle.sessions.specs.declared.feed_report.FileCount.{FileCount}

-- the line of file k that was read to its end
abbrev pub counts_line : (k accepted repeated refused : ℕ) → List ℕ
counts_line k accepted repeated refused =
    codes "file " ++ decimal k ++ codes " accepted " ++ decimal accepted ++ codes " repeated " ++ decimal repeated
    ++ codes " refused " ++ decimal refused ++ 10 ∷ []

-- the line of file k that was stopped
abbrev pub failed_line : (k code : ℕ) → List ℕ
failed_line k code = codes "file " ++ decimal k ++ codes " failed " ++ decimal code ++ 10 ∷ []

abbrev pub line_by : (k accepted repeated refused : ℕ) → Option ℕ → List ℕ
line_by k accepted repeated refused None = counts_line k accepted repeated refused
line_by k accepted repeated refused (Some code) = failed_line k code

-- the line of file k
abbrev pub file_line : {R : Type 0} → ℕ → FileCount R → List ℕ
file_line k file = line_by k file.accepted file.repeated file.refused file.failed

-- the lines of files, numbered from k on
abbrev pub file_lines : {R : Type 0} → ℕ → List (FileCount R) → List ℕ
file_lines k [] = []
file_lines k (file ∷ files) = file_line k file ++ file_lines (k + 1) files

-- a line for each file, numbered from 1, and the sheet of the book's present version
pub record IsReportText {R : Type 0} (files : List (FileCount R)) (book : BookValue) (text : List ℕ) : Type 0 where
  pub sheet : List ℕ
  pub is_sheet : IsSheetText (length book.state.history) (present_office book) sheet
  pub whole : text ≡ file_lines 1 files ++ sheet
