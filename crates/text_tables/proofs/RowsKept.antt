-- What a line of JSON keeps of its row.
use Rattle.std.proofs.Common.{◌≡◌, ℕ, suc, ◌+◌, ◌<◌, Bool, true, false, ◌==◌, if◌then◌else◌, List, [], ◌∷◌, map, length, get_or, decimal, refl, sym, ap, ◌∙◌, arith}
use Rattle.std.specs.Prelude.{slice_index_or}
use Rattle.std.specs.List.{range_with_len}
use Rattle.std.proofs.lemmas.Bool.{eqb-true, ne_eqb}
use Rattle.std.proofs.lemmas.Fmt.{decimal_nonempty}
use Rattle.std.proofs.lemmas.List.{nil_from_length}
use Rattle.std.proofs.lemmas.Simd.{map-map}
use Rattle.json.specs.Json.{null, number, string}
use Rattle.text_tables.specs.Aligned.{cell_at}
use Rattle.text_tables.specs.JsonLines.{Member}
use Rattle.text_tables.specs.JsonRows.{stands_bare}
use Rattle.text_tables.specs.Laws.{NumbersAreNumbers, RowIsKept, cell_of}
use Rattle.text_tables.specs.Row.{Row}
use Rattle.text_tables.specs.RowMembers.{cell_value, column_member}
use Rattle.text_tables.specs.declared.aligned.Side.{Side}
use Rattle.text_tables.specs.declared.aligned.Side.TheVariants.{Left}
use Rattle.text_tables.proofs.WholeNumbers.{decimal_is_whole}

-- ---- names and cells

-- the cells of a row from column a on
cells_from : (a : ℕ) (cells row : Row) → ((k : ℕ) → k < length cells → slice_index_or row (a + k) [] ≡ get_or cells k []) → map (cell_at row) (range_with_len a (length cells)) ≡ cells
cells_from a [] row same = refl
cells_from a (cell ∷ cells) row same =
    let first : cell_at row a ≡ cell = ap (cell_at row) (omega arith) ∙ same 0 (omega arith) in
    let rest = cells_from (a + 1) cells row (λ k lt. ap (cell_at row) (omega arith) ∙ same (suc k) (omega arith)) in
    λ i. first i ∷ rest i

all_cells : (row : Row) → map (cell_at row) (range_with_len 0 (length row)) ≡ row
all_cells row = cells_from 0 row row (λ k lt. ap (cell_at row) (omega arith))

value_kept : (side : Side) (cell : List ℕ) → cell_of (cell_value side cell) ≡ cell
value_kept side cell = go (length cell == 0) refl (stands_bare side cell)
  where
    go : (empty : Bool) → (length cell == 0) ≡ empty → (bare : Bool) → cell_of (if empty then null else if bare then number cell else string cell) ≡ cell
    go true e bare = sym (nil_from_length cell (eqb-true (length cell) 0 e))
    go false e true = refl
    go false e false = refl

pub row_is_kept : (sides : List Side) (titles row : Row) → RowIsKept sides titles row
row_is_kept sides titles row =
    let ks = range_with_len 0 (length titles) in
    record {
      names = map-map (λ (m : Member). m.0) (column_member sides titles row) ks ∙ all_cells titles;
      cells = λ as_long. map-map (λ (m : Member). cell_of m.1) (column_member sides titles row) ks
          ∙ (λ i. map (λ k. value_kept (slice_index_or sides k Left) (cell_at row k) i) ks) ∙ ap (λ n. map (cell_at row) (range_with_len 0 n)) (sym as_long) ∙ all_cells row;
    }

-- ---- numbers

pub numbers_are_numbers : NumbersAreNumbers
numbers_are_numbers n small =
    rw (ne_eqb (length (decimal n)) 0 (λ e. omega (arith, decimal_nonempty n small)), decimal_is_whole n (omega arith)) refl
