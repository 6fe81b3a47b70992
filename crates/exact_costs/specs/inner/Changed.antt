-- Tables that differ from another in one wagon's row, or in one order's penalty and lack.
use Rattle.std.specs.Prelude.{◌==◌, ◌-◌, ℕ, List, [], ◌∷◌, Option, if◌then◌else◌, slice_set}
use Rattle.cost_table.specs.Table.{Table, lack_at, order_count}
use Rattle.cost_table.specs.TableLimits.{max_cost}
use Rattle.cost_table.specs.TableRows.{costs_of}
use Rattle.plan_bounds.specs.Changes.{with_lack}

-- the same but for the costs of wagon i
abbrev pub with_costs : Table → (i : ℕ) → (costs : List (Option ℕ)) → Table
with_costs t i costs = record t { costs = slice_set t.costs i costs }

-- wagon i may serve order j alone, at no cost
abbrev pub with_free_pair : Table → (i j : ℕ) → Table
with_free_pair t i j = with_costs t i (costs_of (order_count t) ((j, 0) ∷ []))

-- the wagons that order j misses cost nothing
abbrev pub without_penalty : Table → (j : ℕ) → Table
without_penalty t j = record t { penalties = slice_set t.penalties j 0 }

-- Order j lacks one wagon less. Where it lacks one, the table stays, and the wagon that it may miss costs nothing.
abbrev pub one_less : Table → (j : ℕ) → Table
one_less t j = if lack_at t j == 1 then without_penalty t j else with_lack t j (lack_at t j - 1)

-- order j lacks n wagons, and each that it misses costs the most that a table may have
abbrev pub with_wanted : Table → (j n : ℕ) → Table
with_wanted t j n = record t { penalties = slice_set t.penalties j max_cost; lacks = slice_set t.lacks j n }
