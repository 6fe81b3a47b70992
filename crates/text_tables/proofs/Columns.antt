-- Columns one after the other, and the widths of columns.
use Rattle.std.proofs.Common.{◌≡◌, ◌∙◌, ℕ, zero, suc, ◌+◌, ◌<◌, List, ◌∷◌, [], ◌++◌, map, length, get_or, ap, refl, append-nil, add-one, arith}
use Rattle.std.proofs.lemmas.List.FromFn.{get_or-map-range_with_len, length-map-range_with_len}
use Rattle.std.proofs.lemmas.List.Concat.{flat_map-append}
use Rattle.std.specs.List.{flat_map, range_with_len}
use Rattle.std.specs.Prelude.{◌==◌, false, slice_index_or}
use Rattle.text_tables.specs.Aligned.{cell_at, column_text, column_width, filled}
use Rattle.text_tables.specs.Row.{Row}
use Rattle.text_tables.specs.declared.aligned.Side.{Side}
use Rattle.text_tables.specs.declared.aligned.Side.TheVariants.{Left}

range_more : (a n : ℕ) → range_with_len a (suc n) ≡ range_with_len a n ++ (a + n) ∷ []
range_more a zero = ap (λ k. k ∷ []) (omega arith)
range_more a (suc n) = ap (λ xs. a ∷ xs) (range_more (a + 1) n) ∙ ap (λ k. a ∷ range_with_len (a + 1) n ++ k ∷ []) (omega arith)

pub range_one_more : (n : ℕ) → range_with_len 0 (n + 1) ≡ range_with_len 0 n ++ n ∷ []
range_one_more n = ap (range_with_len 0) (add-one n) ∙ range_more 0 n ∙ ap (λ m. range_with_len 0 n ++ m ∷ []) (omega arith)

-- what stands in one column more
pub flat_map-range_more : (f : ℕ → List ℕ) (n : ℕ) → flat_map f (range_with_len 0 (n + 1)) ≡ flat_map f (range_with_len 0 n) ++ f n
flat_map-range_more f n =
    ap (flat_map f) (range_one_more n) ∙ flat_map-append f (range_with_len 0 n) (n ∷ []) ∙ ap (λ more. flat_map f (range_with_len 0 n) ++ more) (append-nil (f n))

-- how many widths there are
pub widths-length : (f : ℕ → ℕ) (widths : List ℕ) (n : ℕ) → widths ≡ map f (range_with_len 0 n) → length widths ≡ n
widths-length f widths n is = ap length is ∙ length-map-range_with_len f 0 n

-- the width of column k
pub width-at : (f : ℕ → ℕ) (widths : List ℕ) (n k d : ℕ) → widths ≡ map f (range_with_len 0 n) → k < n → get_or widths k d ≡ f k
width-at f widths n k d is within = ap (λ xs. get_or xs k d) is ∙ get_or-map-range_with_len f 0 n k k d within (omega arith)

-- a cell that is filled up stands in its column
pub column_text-filled : (sides : List Side) (rows : List Row) (row : Row) (k : ℕ) (side : Side) (width : ℕ) (cell : List ℕ) → (k + 1 == length sides) ≡ false → side ≡ slice_index_or sides k Left
    → width ≡ column_width rows k → cell ≡ cell_at row k → filled side width cell ≡ column_text sides rows row k
column_text-filled sides rows row k side width cell inner at_side wide same = rw (inner, at_side, wide, same) refl
