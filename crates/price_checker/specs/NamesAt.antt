-- What holds of the answers about names.
use Rattle.std.specs.Prelude.{◌<◌, ℕ, List, length, ◌≡◌, ◌≢◌, Result, Err}
use Rattle.cost_table.specs.Names.{NameLists}
use Rattle.price_checker.specs.NamedFaults.{name_at}
use Rattle.faults.specs.declared.faults.NamedFault.{NamedFault}
use Rattle.faults.specs.declared.faults.NamedFault.TheVariants.{OutOfMemory}

-- a wagon and an order are named at these positions
abbrev pub IsNamed : NameLists → ℕ × ℕ → Type 0
IsNamed names p = (p.0 < length names.wagons) × (p.1 < length names.orders)

-- the wagon and the order at these positions
abbrev pub named_at : NameLists → ℕ × ℕ → List ℕ × List ℕ
named_at names p = (name_at names.wagons p.0, name_at names.orders p.1)

-- this fault is what there is, unless memory was refused
abbrev pub IsFaultOf : {A : Type 0} → Result A NamedFault → NamedFault → Type 0
IsFaultOf outcome fault = fault ≢ OutOfMemory → outcome ≡ Err fault
