-- The text of a note: the number of its line, the word that says its kind, and its values, parted by one space.
use Rattle.std.specs.Prelude.{◌≡◌, ℕ, Bool, true, false, List, [], ◌∷◌, ◌++◌, decimal, if◌then◌else◌}
use Rattle.reply_texts.specs.Words.{next_word}

-- the line's number, and the word
abbrev pub note_head : (line : ℕ) → (word : List ℕ) → List ℕ
note_head line word = decimal line ++ next_word word

-- the whole note; its values stand behind a space each
abbrev pub note : (line : ℕ) → (word values : List ℕ) → List ℕ
note line word values = note_head line word ++ values ++ 10 ∷ []

-- a text where a condition holds, else nothing
abbrev pub noted : Bool → List ℕ → List ℕ
noted holds text = if holds then text else []

-- the same of a text that something holds of
abbrev pub NotedIf : Bool → (List ℕ → Type 0) → List ℕ → Type 0
NotedIf true IsNote text = IsNote text
NotedIf false IsNote text = text ≡ []
