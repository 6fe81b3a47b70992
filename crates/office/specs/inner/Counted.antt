-- Brackets that were counted up to some byte of a line, and those that follow.
use Rattle.std.specs.Prelude.{◌≡◌, ◌+◌, ℕ, List, ◌∷◌}
use Rattle.std.specs.List.{count_by}
use Rattle.office.specs.LineNotes.{is_closing, is_opening, outside_texts}
use Rattle.office.specs.declared.brackets.Brackets.{Brackets}

-- how many opening brackets a line has that goes on with these bytes
abbrev pub opened_with : Brackets → (rest : List ℕ) → ℕ
opened_with brackets rest = brackets.opened + count_by is_opening (outside_texts brackets.reading rest)

-- how many closing brackets it has then
abbrev pub closed_with : Brackets → (rest : List ℕ) → ℕ
closed_with brackets rest = brackets.closed + count_by is_closing (outside_texts brackets.reading rest)

-- one byte more was counted: however the line goes on, it has as many opening brackets as before
abbrev pub CountsOpening : (old : Brackets) → (byte : ℕ) → (new : Brackets) → Type 0
CountsOpening old byte new = (rest : List ℕ) → opened_with new rest ≡ opened_with old (byte ∷ rest)

-- one byte more was counted: however the line goes on, it has as many closing brackets as before
abbrev pub CountsClosing : (old : Brackets) → (byte : ℕ) → (new : Brackets) → Type 0
CountsClosing old byte new = (rest : List ℕ) → closed_with new rest ≡ closed_with old (byte ∷ rest)
