-- Rows whose cells stand in two places.
use Rattle.std.proofs.Common.{◌≡◌, ◌+◌, ◌≤◌, ℕ, List, [], ◌∷◌, ◌++◌, Some, None, length, refl, subst, arith}
use Rattle.std.specs.Prelude.{All}
use Rattle.std.proofs.Math.Seq.{drop-append_seam, take-append_seam}
use Rattle.std.proofs.lemmas.Bool.Decides.{nat_tests}
use Rattle.std.proofs.lemmas.List.Elements.{All-drop, All-take}
use Rattle.cost_table.specs.TableLimits.{IsRow}
use Rattle.cost_table.specs.TableRows.{cost_in}

pub first_is_row : (n low : ℕ) (first rest : List (ℕ × ℕ)) → IsRow n low (first ++ rest) → IsRow n low first
first_is_row n low [] rest h = tt
first_is_row n low (cell ∷ first) rest h = (h.0, h.1, h.2, first_is_row n (cell.0 + 1) first rest h.3)

pub row_from_less : (n low low' : ℕ) (row : List (ℕ × ℕ)) → low' ≤ low → IsRow n low row → IsRow n low' row
row_from_less n low low' [] l h = tt
row_from_less n low low' (cell ∷ row) l h = (omega (arith, l, h.0), h.1, h.2, h.3)

pub rest_is_row : (n low : ℕ) (first rest : List (ℕ × ℕ)) → IsRow n low (first ++ rest) → IsRow n 0 rest
rest_is_row n low [] rest h = row_from_less n low 0 rest (omega arith) h
rest_is_row n low (cell ∷ first) rest h = rest_is_row n (cell.0 + 1) first rest h.3

-- an order's cell is among the first, or else among the rest
pub cost_first : (first rest : List (ℕ × ℕ)) (j cost : ℕ) → cost_in first j ≡ Some cost → cost_in (first ++ rest) j ≡ Some cost
cost_first [] rest j cost is = cc
cost_first (cell ∷ first) rest j cost is = grind (arith, nat_tests, is, cost_first first rest j cost)

pub cost_rest : (first rest : List (ℕ × ℕ)) (j : ℕ) → cost_in first j ≡ None → cost_in (first ++ rest) j ≡ cost_in rest j
cost_rest [] rest j is = refl
cost_rest (cell ∷ first) rest j is = grind (arith, nat_tests, is, cost_rest first rest j)

-- what holds of all cells of a row holds of the first ones, and of the rest
pub first_all : (P : ℕ × ℕ → Type 0) (first rest : List (ℕ × ℕ)) → All P (first ++ rest) → All P first
first_all P first rest all = subst (All P) (take-append_seam first rest) (All-take P (length first) (first ++ rest) all)

pub rest_all : (P : ℕ × ℕ → Type 0) (first rest : List (ℕ × ℕ)) → All P (first ++ rest) → All P rest
rest_all P first rest all = subst (All P) (drop-append_seam first rest) (All-drop P (length first) (first ++ rest) all)
