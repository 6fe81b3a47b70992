-- What is noted of a message that is ahead of those around it, as text.
use Rattle.std.specs.Prelude.{◌≡◌, ℕ, List, [], ◌++◌, codes, decimal, Option, Some, None}
use Rattle.reply_texts.specs.Words.{IsMomentWord, next_word}
use Rattle.journal_notes.specs.Heard.{is_ahead}
use Rattle.journal_notes.specs.declared.heard.Heard.{Heard}
use Rattle.journal_notes.specs.declared.note.HeardMessage.{HeardMessage}
use Rattle.office.specs.NoteText.{NotedIf, note}

pub record IsAheadNote (line : ℕ) (ahead : HeardMessage) (text : List ℕ) : Type 0 where
  pub moment : List ℕ
  pub is_moment : IsMomentWord ahead.moment moment
  pub whole : text ≡ note line (codes "ahead") (next_word (decimal ahead.line) ++ next_word ahead.wagon ++ moment)

abbrev pub AheadBetween : (line : ℕ) → (before this : Option HeardMessage) → (after : ℕ) → List ℕ → Type 0
AheadBetween line (Some before) (Some this) after text = NotedIf (is_ahead before.moment this.moment after) (IsAheadNote line this) text
AheadBetween line (Some before) None after text = text ≡ []
AheadBetween line None this after text = text ≡ []

-- the note, at the line of this message, that the message before it is ahead of the one before that and of this one
abbrev pub AheadNotes : (line : ℕ) → Heard → (after : ℕ) → List ℕ → Type 0
AheadNotes line heard after text = AheadBetween line heard.before_last heard.last after text
