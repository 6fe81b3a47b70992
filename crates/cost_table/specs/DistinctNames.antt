-- Names of which none stands twice.
use Rattle.std.specs.Prelude.{ℕ, if◌then◌else◌, nat_eq, nat_lt, ◌||◌, Bool, List, [], ◌∷◌, ◌++◌, length, Option, Some, None, Result, Ok, Err}
use Rattle.std.specs.List.{list_any}
use Rattle.std.specs.Cmp.Lexicographic.{pointwise}
use Rattle.cost_table.specs.TableLimits.{max_table_wagons, max_table_orders}
use Rattle.faults.specs.declared.faults.TableFault.{TableFault}
use Rattle.faults.specs.declared.faults.TableFault.TheVariants.{DuplicateWagon, DuplicateOrder, TooLarge}
use Rattle.cost_table.specs.Names.{NameLists, is_name}

abbrev pub is_name_among : List (List ℕ) → List ℕ → Bool
is_name_among names name = list_any (is_name name) names

-- the first of some values that is the same as an earlier one, where those of `before` are earlier than all
abbrev pub repeated_from : {A : Type 0} → (A → A → Bool) → List A → List A → Option A
repeated_from same before [] = None
repeated_from same before (x ∷ xs) = if list_any (λ y. same y x) before then Some x else repeated_from same (before ++ x ∷ []) xs

-- the first of the names that repeats an earlier one, where those of `before` are earlier than all
abbrev pub repeated_after : List (List ℕ) → List (List ℕ) → Option (List ℕ)
repeated_after before names = repeated_from (λ name other. pointwise nat_eq name other) before names

abbrev pub first_repeated : List (List ℕ) → Option (List ℕ)
first_repeated names = repeated_after [] names

-- x, where no wagon and no order is repeated
abbrev pub unrepeated : {A : Type 0} → A → (wagon : Option (List ℕ)) → (order : Option (List ℕ)) → Result A TableFault
unrepeated x (Some number) id = Err (DuplicateWagon number)
unrepeated x None (Some id) = Err (DuplicateOrder id)
unrepeated x None None = Ok x

-- the names of a table, or what is wrong with them
abbrev pub names_or_fault : List (List ℕ) → List (List ℕ) → Result NameLists TableFault
names_or_fault wagons orders =
    if nat_lt max_table_wagons (length wagons) || nat_lt max_table_orders (length orders) then Err TooLarge
    else unrepeated (record { wagons = wagons; orders = orders }) (first_repeated wagons) (first_repeated orders)
