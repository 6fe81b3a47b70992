-- How an input is cut into lines.
use Rattle.std.specs.Prelude.{◌≡◌, ◌≤◌, ℕ, ◌-◌, ◌==◌, nat_lt, ◌&&◌, ◌||◌, not, Bool, false, List, [], ◌∷◌, ◌++◌, length, slice_index, if◌then◌else◌}
use Rattle.std.specs.List.{list_all, list_any, flat_map, AllByRecursion}

abbrev pub line_feed : ℕ
line_feed = 10

-- the most inputs that are read side by side
abbrev pub max_files : ℕ
max_files = 16

-- the most lines of an input
abbrev pub max_input_lines : ℕ
max_input_lines = 1000000

-- the most bytes of a line where nothing else is said, its line feed not counted
abbrev pub max_line_bytes : ℕ
max_line_bytes = 65536

-- the most that may be said
abbrev pub largest_line_limit : ℕ
largest_line_limit = 67108864

-- a number that may be the most bytes of a line
abbrev pub IsLineLimit : ℕ → Type 0
IsLineLimit most = (1 ≤ most) × (most ≤ largest_line_limit)

-- a line that may be answered where lines have so many bytes at most
abbrev pub IsWithin : (most : ℕ) → List ℕ → Type 0
IsWithin most line = length line ≤ most

abbrev pub has_feed : List ℕ → Bool
has_feed bytes = list_any (λ c. c == line_feed) bytes

-- a byte at the front of the first line
abbrev pub begin_with : ℕ → List (List ℕ) → List (List ℕ)
begin_with c [] = (c ∷ []) ∷ []
begin_with c (line ∷ lines) = (c ∷ line) ∷ lines

-- The lines of an input, each without its line feed. A last piece that no line feed ends is a line where
-- it isn't empty.
abbrev pub lines_of : List ℕ → List (List ℕ)
lines_of [] = []
lines_of (c ∷ bytes) = if c == line_feed then [] ∷ lines_of bytes else begin_with c (lines_of bytes)

-- whether the last line of an input has no line feed: the input has a byte, and the last one is no line feed
unfoldable pub is_unended : List ℕ → Bool
is_unended input = nat_lt 0 (length input) && not (slice_index input (length input - 1) == line_feed)

-- the bytes before the first line feed, or all of them
abbrev pub first_line : List ℕ → List ℕ
first_line [] = []
first_line (c ∷ bytes) = if c == line_feed then [] else c ∷ first_line bytes

-- lines, each with its line feed
abbrev pub with_feeds : List (List ℕ) → List ℕ
with_feeds lines = flat_map (λ line. line ++ line_feed ∷ []) lines

-- The input is these lines, each of them ended by a line feed, and then the rest.
pub record BeginsWith (input : List ℕ) (lines : List (List ℕ)) (rest : List ℕ) : Type 0 where
  pub bytes : input ≡ with_feeds lines ++ rest
  pub free : AllByRecursion (λ line. has_feed line ≡ false) lines

-- spaces, tabs and carriage returns alone
abbrev pub is_blank : List ℕ → Bool
is_blank line = list_all (λ c. c == 32 || c == 9 || c == 13) line
