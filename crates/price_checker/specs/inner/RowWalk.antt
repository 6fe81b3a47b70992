-- A wagon's row, walked cell by cell.
use Rattle.std.specs.Prelude.{◌+◌, nat_lt, ℕ, if◌then◌else◌, List, [], ◌∷◌, Option, Some, None, slice_index}
use Rattle.faults.specs.declared.faults.CheckFault.{CheckFault}
use Rattle.faults.specs.declared.faults.CheckFault.TheVariants.{PriceGap}

-- the first cell of wagon i's row whose order's price passes its cost and the wagon's price u
abbrev pub gap_of_row : ℕ → List (ℕ × ℕ) → ℕ → List ℕ → Option CheckFault
gap_of_row i [] u v = None
gap_of_row i (cell ∷ row) u v =
    if nat_lt (cell.1 + u) (slice_index v cell.0) then Some (PriceGap i cell.0) else gap_of_row i row u v
