-- Lines of rows whose cells are UTF-8 are UTF-8.
use Rattle.std.proofs.Common.{ℕ, Bool, true, false, ◌==◌, if◌then◌else◌, List, [], ◌∷◌, map, length, IsUtf8, refl, sym, subst, inl, inr}
use Rattle.std.specs.Prelude.{All, codes, slice_index_or}
use Rattle.std.specs.List.{AllByRecursion, flat_map, join_with_byte, range_with_len}
use Rattle.std.proofs.lemmas.Bool.{cases_lt}
use Rattle.std.proofs.lemmas.List.{get_or_past}
use Rattle.std.proofs.lemmas.List.Elements.{recursion_from_All}
use Rattle.std.proofs.lemmas.Str.{IsUtf8-append, IsUtf8-nil}
use Rattle.json.proofs.Printed.Utf8.{IsUtf8-are_ascii, IsUtf8-quoted}
use Rattle.text_tables.specs.Aligned.{cell_at}
use Rattle.text_tables.specs.JsonRows.{json_text, member_text, members_text, object_line, stands_bare, value_text}
use Rattle.text_tables.specs.Laws.{LinesAreUtf8}
use Rattle.text_tables.specs.Row.{Row}
use Rattle.text_tables.specs.declared.aligned.Side.{Side}
use Rattle.text_tables.specs.declared.aligned.Side.TheVariants.{Left}

-- a byte of ASCII before a text
behind : (byte : ℕ) (text : List ℕ) → IsUtf8 (byte ∷ []) → IsUtf8 text → IsUtf8 (byte ∷ text)
behind byte text one rest = IsUtf8-append (byte ∷ []) text one rest

-- each cell, also one that isn't there
cell_utf8 : (row : Row) (k : ℕ) → All IsUtf8 row → IsUtf8 (cell_at row k)
cell_utf8 row k h = elim (cases_lt k (length row)) [
  | inl there ↦ h k [] there
  | inr past ↦ subst IsUtf8 (sym (get_or_past row k [] past)) IsUtf8-nil
]

value_utf8 : (side : Side) (cell : List ℕ) → IsUtf8 cell → IsUtf8 (value_text side cell)
value_utf8 side cell h = go (length cell == 0) (stands_bare side cell)
  where
    go : (empty bare : Bool) → IsUtf8 (if empty then codes "null" else if bare then cell else json_text cell)
    go true bare = IsUtf8-are_ascii _ refl
    go false true = h
    go false false = IsUtf8-quoted cell h

joined_utf8 : (byte : ℕ) (texts : List (List ℕ)) → IsUtf8 (byte ∷ []) → AllByRecursion IsUtf8 texts → IsUtf8 (join_with_byte byte texts)
joined_utf8 byte [] one h = IsUtf8-nil
joined_utf8 byte (text ∷ []) one h = h.0
joined_utf8 byte (text ∷ next ∷ texts) one h = IsUtf8-append text _ h.0 (behind byte _ one (joined_utf8 byte (next ∷ texts) one h.1))

module _ (sides : List Side) (titles : Row) (are : All IsUtf8 titles) where
  member_utf8 : (row : Row) (k : ℕ) → All IsUtf8 row → IsUtf8 (member_text sides titles row k)
  member_utf8 row k h =
      IsUtf8-append (json_text (cell_at titles k)) _ (IsUtf8-quoted (cell_at titles k) (cell_utf8 titles k are))
      (behind 58 _ (IsUtf8-are_ascii _ refl) (value_utf8 (slice_index_or sides k Left) (cell_at row k) (cell_utf8 row k h)))

  members_utf8 : (row : Row) (ks : List ℕ) → All IsUtf8 row → AllByRecursion IsUtf8 (map (member_text sides titles row) ks)
  members_utf8 row [] h = tt
  members_utf8 row (k ∷ ks) h = (member_utf8 row k h, members_utf8 row ks h)

  line_utf8 : (row : Row) → All IsUtf8 row → IsUtf8 (object_line sides titles row)
  line_utf8 row h =
      let members = joined_utf8 44 _ (IsUtf8-are_ascii _ refl) (members_utf8 row (range_with_len 0 (length titles)) h) in
      behind 123 _ (IsUtf8-are_ascii _ refl) (IsUtf8-append (members_text sides titles row) (125 ∷ 10 ∷ []) members (IsUtf8-are_ascii _ refl))

  lines_utf8 : (rows : List Row) → AllByRecursion (λ row. All IsUtf8 row) rows → IsUtf8 (flat_map (object_line sides titles) rows)
  lines_utf8 [] h = IsUtf8-nil
  lines_utf8 (row ∷ rows) h = IsUtf8-append (object_line sides titles row) _ (line_utf8 row h.0) (lines_utf8 rows h.1)

pub lines_are_utf8 : LinesAreUtf8
lines_are_utf8 sides titles rows are each = lines_utf8 sides titles are rows (recursion_from_All (λ row. All IsUtf8 row) rows each)
