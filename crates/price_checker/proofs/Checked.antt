-- What positions that were found, and a check that passed, say.
use Rattle.std.proofs.Common.{◌≡◌, ℕ, List, ◌∷◌, refl}
use Rattle.std.specs.Prelude.{Option, Some, None, Result, Ok, Err}
use Rattle.cost_table.specs.Names.{NameLists, pair_of}
use Rattle.cost_table.specs.Table.{Table}
use Rattle.cost_table.specs.Plan.{cost_of}
use Rattle.price_checker.specs.Faults.{first_fault}
use Rattle.faults.specs.declared.faults.CheckFault.{CheckFault}
use Rattle.price_checker.specs.NamedPairs.{NamedPair, before_rest, checked, checked_at, cost_unless, found_or, positions_of}
use Rattle.faults.specs.declared.faults.NamedFault.{NamedFault}

-- the position of the first pair, and those of the rest
pub record FirstPosition (names : NameLists) (pair : NamedPair) (pairs : List NamedPair) (positions : List (ℕ × ℕ)) : Type 0 where
  pub position : ℕ × ℕ
  pub rest : List (ℕ × ℕ)
  pub found : pair_of names pair.0 pair.1 ≡ Some position
  pub others : positions_of names pairs ≡ Ok rest
  pub same : position ∷ rest ≡ positions

parts_of : (names : NameLists) (pair : NamedPair) (pairs : List NamedPair) (positions : List (ℕ × ℕ)) (found : Option (ℕ × ℕ)) (rest : Result (List (ℕ × ℕ)) NamedFault)
    → pair_of names pair.0 pair.1 ≡ found → positions_of names pairs ≡ rest → before_rest (found_or pair found) rest ≡ Ok positions → FirstPosition names pair pairs positions
parts_of names pair pairs positions None rest is others h = absurd cc
parts_of names pair pairs positions (Some p) (Err fault) is others h = absurd cc
parts_of names pair pairs positions (Some p) (Ok ps) is others h = record { position = p; rest = ps; found = is; others = others; same = cc }

pub first_position : (names : NameLists) (pair : NamedPair) (pairs : List NamedPair) (positions : List (ℕ × ℕ)) → positions_of names (pair ∷ pairs) ≡ Ok positions → FirstPosition names pair pairs positions
unfolding positions_of
first_position names pair pairs positions h = parts_of names pair pairs positions (pair_of names pair.0 pair.1) (positions_of names pairs) refl refl h

-- the pairs have positions, at which they and the prices have no fault
pub record Passes (names : NameLists) (table : Table) (pairs : List NamedPair) (u v : List ℕ) (cost : ℕ) : Type 0 where
  pub positions : List (ℕ × ℕ)
  pub found : positions_of names pairs ≡ Ok positions
  pub no_fault : first_fault table positions u v ≡ None
  pub least : cost ≡ cost_of table positions

passes_with : (names : NameLists) (table : Table) (pairs : List NamedPair) (u v : List ℕ) (cost : ℕ) (positions : List (ℕ × ℕ)) (fault : Option CheckFault)
    → positions_of names pairs ≡ Ok positions → first_fault table positions u v ≡ fault → cost_unless names fault (cost_of table positions) ≡ Ok cost → Passes names table pairs u v cost
passes_with names table pairs u v cost positions None found is h = record { positions = positions; found = found; no_fault = is; least = cc }
passes_with names table pairs u v cost positions (Some fault) found is h = absurd cc

passes_at : (names : NameLists) (table : Table) (pairs : List NamedPair) (u v : List ℕ) (cost : ℕ) (found : Result (List (ℕ × ℕ)) NamedFault)
    → positions_of names pairs ≡ found → checked_at names table u v found ≡ Ok cost → Passes names table pairs u v cost
passes_at names table pairs u v cost (Err fault) is h = absurd cc
passes_at names table pairs u v cost (Ok positions) is h = passes_with names table pairs u v cost positions (first_fault table positions u v) is refl h

-- a check that gives a cost has passed
pub passes : (names : NameLists) (table : Table) (pairs : List NamedPair) (u v : List ℕ) (cost : ℕ) → checked names table pairs u v ≡ Ok cost → Passes names table pairs u v cost
unfolding checked
passes names table pairs u v cost h = passes_at names table pairs u v cost (positions_of names pairs) refl h
