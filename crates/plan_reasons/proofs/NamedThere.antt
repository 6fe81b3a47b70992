-- Where names stand.
use Rattle.std.proofs.Common.{◌≡◌, ℕ, Option, Some, None, List, map, sym, ◌∙◌}
use Rattle.std.specs.Prelude.{IfSome, position, slice_get}
use Rattle.cost_table.specs.Names.{is_name}
use Rattle.cost_table.specs.DistinctNames.{first_repeated}
use Rattle.cost_table.proofs.NameLemmas.{found_at, held_at}
use Rattle.cost_table.proofs.ProblemLemmas.{position-map}

module _ {A : Type 0} (name_of : A → List ℕ) (xs : List A) (name : List ℕ) where
  pub named_there : (found : Option ℕ) → found ≡ position (λ x. is_name name (name_of x)) xs → IfSome found (λ i. slice_get (map name_of xs) i ≡ Some name)
  named_there None is = tt
  named_there (Some i) is = found_at (map name_of xs) name i (position-map (is_name name) name_of xs ∙ sym is)

  pub found_there : (found : Option ℕ) → found ≡ position (λ x. is_name name (name_of x)) xs → first_repeated (map name_of xs) ≡ None → (i : ℕ) → slice_get (map name_of xs) i ≡ Some name → found ≡ Some i
  found_there found is once i there = is ∙ sym (position-map (is_name name) name_of xs) ∙ held_at (map name_of xs) name i once there
