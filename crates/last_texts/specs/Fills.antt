-- The orders that the lines of a journal fill, and by how many minutes late.
use Rattle.std.specs.Prelude.{◌≡◌, ◌⊎◌, ℕ, Bool, true, false, nat_eq, if◌then◌else◌, List, [], Option, Some, None}
use Rattle.std.specs.BTreeMap.{get}
use Rattle.std.specs.Cmp.Lexicographic.{pointwise}
use Rattle.std.specs.List.{fold}
use Rattle.std.specs.Option.{option_or}
use Rattle.fleet_rows.specs.Kept.{compare_numbers}
use Rattle.journal_notes.specs.NotedJournal.{NotesLine}
use Rattle.journal_notes.specs.declared.note.Note.{Note}
use Rattle.journal_notes.specs.declared.note.Note.TheVariants.{Filled}
use Rattle.last_texts.specs.declared.fills.FilledJournal.{FilledJournal}
use Rattle.movements.specs.Needs.{LateFills}

-- how late a note says that an order was filled, if it says so of this order
abbrev pub fill_of : Note → (order : List ℕ) → Option ℕ
fill_of (Filled filled) order = if pointwise nat_eq filled.order order then Some filled.late else None
fill_of note order = None

-- how late the last of these notes says it, else what was known before
abbrev pub fills_after : List Note → LateFills → LateFills
fills_after notes before order = fold (λ known note. option_or (fill_of note order) known) (before order) notes

abbrev pub IsWithFills : List Note → (before after : LateFills) → Type 0
IsWithFills notes before after = (order : List ℕ) → after order ≡ fills_after notes before order

-- what is known of each order
abbrev pub fills_in : FilledJournal → LateFills
fills_in journal order = get compare_numbers journal.late_fills order

-- a line is brought to the book, and what its notes say was filled is known
pub record IsFilled (line : ℕ) (old : FilledJournal) (bytes : List ℕ) (new : FilledJournal) : Type 0 where
  pub notes : List Note
  pub noted : NotesLine line old.journal bytes notes new.journal
  pub fills : IsWithFills notes (fills_in old) (fills_in new)
  pub whole : new.is_partial ≡ false

-- memory was refused for a line
pub record IsCutOff (old new : FilledJournal) : Type 0 where
  pub partial : new.is_partial ≡ true
  pub setting : new.journal.book.setting ≡ old.journal.book.setting

-- a partial journal follows no line
abbrev pub FillsWhere : (partial : Bool) → (line : ℕ) → FilledJournal → (bytes : List ℕ) → FilledJournal → Type 0
FillsWhere true line old bytes new = new ≡ old
FillsWhere false line old bytes new = IsFilled line old bytes new ⊎ IsCutOff old new

abbrev pub FillsLine : (line : ℕ) → FilledJournal → (bytes : List ℕ) → FilledJournal → Type 0
FillsLine line old bytes new = FillsWhere old.is_partial line old bytes new

-- What is replied to a line that isn't blank: nothing.
abbrev pub FindsFills : (line : ℕ) → FilledJournal → (bytes text : List ℕ) → (counts : Bool) → FilledJournal → Type 0
FindsFills line old bytes text counts new = (text ≡ []) × (counts ≡ false) × FillsLine line old bytes new

-- a journal before its first line
pub record IsFirstFilled (journal : FilledJournal) : Type 0 where
  pub empty : (order : List ℕ) → fills_in journal order ≡ None
  pub whole : journal.is_partial ≡ false
