-- Rows as lines of JSON.
use Rattle.std.proofs.Common.{◌≡◌, ℕ, Bool, true, false, ◌==◌, if◌then◌else◌, List, [], ◌∷◌, ◌++◌, map, length, refl, sym, ap, ◌∙◌, arith, append-nil}
use Rattle.std.specs.Prelude.{codes, slice_index_or}
use Rattle.std.specs.List.{AllZip, concat, flat_map, join_with_byte, list_all, range_with_len}
use Rattle.std.specs.Char.{is_ascii_digit}
use Rattle.std.proofs.lemmas.Bool.{and_parts, eqb-false}
use Rattle.json.specs.Json.{null, number, string}
use Rattle.json.specs.Print.{print, print_from}
use Rattle.json.specs.Tree.{json_tokens}
use Rattle.text_tables.specs.Aligned.{cell_at}
use Rattle.text_tables.specs.JsonLines.{AreObjectLines, IsObjectLine}
use Rattle.text_tables.specs.JsonRows.{is_whole_number, json_text, member_text, object_line, stands_bare, value_text}
use Rattle.text_tables.specs.Row.{Row}
use Rattle.text_tables.specs.RowMembers.{cell_value, column_member, row_members}
use Rattle.text_tables.specs.declared.aligned.Side.{Side}
use Rattle.text_tables.specs.declared.aligned.Side.TheVariants.{Left, Right}
use Rattle.text_tables.proofs.Controls.{clean-quoted, is_clean}
use Rattle.text_tables.proofs.JsonLines as lines
use Rattle.text_tables.proofs.JsonLines.{AreWritable, IsWritable, member_print}
use Rattle.text_tables.proofs.WholeNumbers.{IsNumber-whole, clean-digits}

-- ---- values

null_writable : IsWritable null
unfolding print_from
null_writable = record { numbers = tt; shallow = omega arith; clean = refl }

string_writable : (text : List ℕ) → IsWritable (string text)
unfolding print_from
string_writable text = record { numbers = tt; shallow = omega arith; clean = ap is_clean (append-nil (json_text text)) ∙ clean-quoted text }

number_writable : (cell : List ℕ) → (length cell ≡ 0 → ⊥) → is_whole_number cell ≡ true → IsWritable (number cell)
unfolding print_from
number_writable cell some is = record {
  numbers = IsNumber-whole cell some is;
  shallow = omega arith;
  clean = ap is_clean (append-nil cell) ∙ clean-digits cell (and_parts (list_all is_ascii_digit cell) _ is).0;
}

bare_writable : (side : Side) (cell : List ℕ) → (length cell ≡ 0 → ⊥) → stands_bare side cell ≡ true → IsWritable (number cell)
bare_writable Left cell some is = cc
bare_writable Right cell some is = number_writable cell some is

value_writable : (side : Side) (cell : List ℕ) → IsWritable (cell_value side cell)
value_writable side cell = go (length cell == 0) refl (stands_bare side cell) refl
  where
    go : (empty : Bool) → (length cell == 0) ≡ empty → (bare : Bool) → stands_bare side cell ≡ bare → IsWritable (if empty then null else if bare then number cell else string cell)
    go true e bare f = null_writable
    go false e true f = bare_writable side cell (eqb-false (length cell) 0 e) f
    go false e false f = string_writable cell

value_printed : (side : Side) (cell : List ℕ) → value_text side cell ≡ print (json_tokens (cell_value side cell))
unfolding print_from
value_printed side cell = go (length cell == 0) (stands_bare side cell)
  where
    go : (empty bare : Bool)
        → (if empty then codes "null" else if bare then cell else json_text cell) ≡ print (json_tokens (if empty then null else if bare then number cell else string cell))
    go true bare = refl
    go false true = sym (append-nil cell)
    go false false = sym (append-nil (json_text cell))

-- ---- lines

module _ (sides : List Side) (titles : Row) where
  member_printed : (row : Row) (k : ℕ) → member_text sides titles row k ≡ member_print (column_member sides titles row k)
  member_printed row k = ap (λ value. json_text (cell_at titles k) ++ 58 ∷ value) (value_printed (slice_index_or sides k Left) (cell_at row k))

  members_printed : (row : Row) (ks : List ℕ) → map (member_text sides titles row) ks ≡ map member_print (map (column_member sides titles row) ks)
  members_printed row [] = refl
  members_printed row (k ∷ ks) = λ i. member_printed row k i ∷ members_printed row ks i

  members_writable : (row : Row) (ks : List ℕ) → AreWritable (map (column_member sides titles row) ks)
  members_writable row [] = tt
  members_writable row (k ∷ ks) = (value_writable (slice_index_or sides k Left) (cell_at row k), members_writable row ks)

  row_line : (row : Row) → IsObjectLine (row_members sides titles row) (object_line sides titles row)
  row_line row =
      let ks = range_with_len 0 (length titles) in
      lines.object_line (row_members sides titles row) (object_line sides titles row) (members_writable row ks)
      (ap (λ ms. 123 ∷ (join_with_byte 44 ms ++ 125 ∷ 10 ∷ [])) (members_printed row ks))

  each_line : (rows : List Row) → AllZip (λ row line. IsObjectLine (row_members sides titles row) line) rows (map (object_line sides titles) rows)
  each_line [] = tt
  each_line (row ∷ rows) = (row_line row, each_line rows)

  joined_lines : (rows : List Row) → flat_map (object_line sides titles) rows ≡ concat (map (object_line sides titles) rows)
  joined_lines [] = refl
  joined_lines (row ∷ rows) = ap (λ text. object_line sides titles row ++ text) (joined_lines rows)

  pub rows_are_lines : (rows : List Row) → AreObjectLines (row_members sides titles) rows (flat_map (object_line sides titles) rows)
  rows_are_lines rows = record { lines = map (object_line sides titles) rows; each = each_line rows; whole = joined_lines rows }
