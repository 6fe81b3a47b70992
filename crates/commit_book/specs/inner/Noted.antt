-- What is noted of one company's messages.
use Rattle.std.specs.Prelude.{◌<◌, ℕ, List, Option, Some, None, nat_eq, option_map, slice_get}
use Rattle.std.specs.List.{AllPairs, find}
use Rattle.commit_book.specs.declared.rising_ids.Noted.{Noted}

-- each number is below all later ones
abbrev pub Ascend : List Noted → Type 0
Ascend notes = AllPairs (λ one other. one.number < other.number) notes

-- the index that is noted for a number
abbrev pub index_in : List Noted → (number : ℕ) → Option ℕ
index_in notes number = option_map (λ note. note.index) (find (λ note. nat_eq note.number number) notes)

-- the index of the note at a place, where there is one
abbrev pub index_at : List Noted → Option ℕ → Option ℕ
index_at notes None = None
index_at notes (Some place) = option_map (λ note. note.index) (slice_get notes place)
