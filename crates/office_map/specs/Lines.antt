-- The lines of a map.
use Rattle.std.specs.Prelude.{ℕ, zero, suc, ◌+◌, ◌==◌, ◌&&◌, ◌||◌, length, nat_le, not, Bool, false, if◌then◌else◌, List, [], ◌∷◌, ◌++◌, Option, Some, None, codes, decimal, slice_get}
use Rattle.std.specs.List.{flat_map, range_with_len}
use Rattle.line_network.specs.Network.{NetworkValue}
use Rattle.line_network.specs.declared.line.Line.{Line}
use Rattle.place_names.specs.declared.named_place.Coordinates.{Coordinates}
use Rattle.place_names.specs.declared.named_place.NamedPlace.{NamedPlace}
use Rattle.office_map.specs.Names.{coordinates_of}
use Rattle.office_map.specs.Positions.{middle_of}
use Rattle.office_map.specs.Words.{label_break, quoted}

-- whether the second line is the first one the other way, with the same kilometres and minutes
abbrev pub is_back : Option Line → Option Line → Bool
is_back None back = false
is_back (Some line) None = false
is_back (Some line) (Some back) = ((line.from == back.to && line.to == back.from) && line.km == back.km) && line.minutes == back.minutes

-- Whether line i, counted from 0, is drawn with the line before it: it is that line the other way, and that line still
-- waits for one, since it isn't drawn with the line before it in turn.
abbrev pub is_second : List Line → ℕ → Bool
is_second lines zero = false
is_second lines (suc i) = is_back (slice_get lines i) (slice_get lines (suc i)) && not (is_second lines i)

-- the name of a line on the map
abbrev pub line_name : ℕ → List ℕ
line_name i = 34 ∷ [] ++ codes "line " ++ decimal i ++ 34 ∷ []

-- where the place of a number lies, if that is said
abbrev pub lies_at : List NamedPlace → Option (List ℕ) → Option Coordinates
lies_at named None = None
lies_at named (Some place) = coordinates_of named place

-- the middle of a line, where both its ends lie somewhere
abbrev pub line_middle : List NamedPlace → (places : List (List ℕ)) → Line → List ℕ
line_middle named places line = middle_of (lies_at named (slice_get places line.from)) (lies_at named (slice_get places line.to))

-- the kilometres and minutes of line i
abbrev pub line_label : ℕ → Line → List ℕ
line_label i line =
    codes "  " ++ line_name i ++ codes " [label=" ++ 34 ∷ [] ++ decimal line.km ++ codes " km" ++ label_break ++ decimal line.minutes ++ codes " min"
    ++ 34 ∷ []

-- these, in the middle of the line
abbrev pub line_node : List NamedPlace → (places : List (List ℕ)) → ℕ → Line → List ℕ
line_node named places i line = line_label i line ++ line_middle named places line ++ codes "];\n"

-- the code of a place by its number
abbrev pub code_of : Option (List ℕ) → List ℕ
code_of None = []
code_of (Some place) = place

abbrev pub place_name : List (List ℕ) → ℕ → List ℕ
place_name places k = code_of (slice_get places k)

-- how a line is drawn that is run both ways
abbrev pub direction_words : Bool → List ℕ
direction_words both = if both then codes ", dir=none" else []

-- how long each half of a line is drawn, in inches
abbrev pub length_words : ℕ → List ℕ
length_words km =
    if nat_le km 25 then codes "0.6"
    else if nat_le km 50 then codes "0.8"
    else if nat_le km 100 then codes "1"
    else if nat_le km 200 then codes "1.2"
    else if nat_le km 400 then codes "1.5"
    else codes "1.8"

-- the way of line i, over its kilometres and minutes
abbrev pub line_edge : (places : List (List ℕ)) → ℕ → Line → (both : Bool) → List ℕ
line_edge places i line both =
    codes "  " ++ quoted (place_name places line.from) ++ codes " -> " ++ line_name i ++ codes " -> " ++ quoted (place_name places line.to)
    ++ codes " [len=" ++ length_words line.km ++ direction_words both ++ codes "];" ++ 10 ∷ []

-- line i, where it is this one
abbrev pub line_text : List NamedPlace → (places : List (List ℕ)) → ℕ → Option Line → (both : Bool) → List ℕ
line_text named places i None both = []
line_text named places i (Some line) both = line_node named places i line ++ line_edge places i line both

-- whether a place is shown, by its number
abbrev pub is_shown : Option Bool → Bool
is_shown None = false
is_shown (Some shown) = shown

-- whether both ends of a line are shown
abbrev pub has_shown_ends : List Bool → Line → Bool
has_shown_ends shown line = is_shown (slice_get shown line.from) && is_shown (slice_get shown line.to)

abbrev pub shows_line : List Bool → Option Line → Bool
shows_line shown None = false
shows_line shown (Some line) = has_shown_ends shown line

-- Line i, both ways where the line after it is drawn with it. Nothing where it is drawn with the line before it, or where
-- a place that it leads to isn't shown.
abbrev pub line_part : List NamedPlace → NetworkValue → List Bool → ℕ → List ℕ
line_part named network shown i =
    if is_second network.lines i || not (shows_line shown (slice_get network.lines i)) then []
    else line_text named network.places i (slice_get network.lines i) (is_second network.lines (i + 1))

-- the lines of a network, where `shown` says of each place whether it is shown
abbrev pub line_parts : List NamedPlace → NetworkValue → List Bool → List ℕ
line_parts named network shown = flat_map (line_part named network shown) (range_with_len 0 (length network.lines))
