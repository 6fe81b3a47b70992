-- Why an order misses wagons, in a phrase.
use Rattle.std.specs.Prelude.{ℕ, ◌==◌, ◌++◌, if◌then◌else◌, List, codes}
use Rattle.plan_table.specs.declared.plan_list.Reason.{Reason}
use Rattle.plan_table.specs.declared.plan_list.Reason.TheVariants.{Past, Class, Load, Way, InTime, Cheaper, Elsewhere}

-- which wagons are spoken of: none at all, or none beside those that the order gets
abbrev pub no_wagon : (gets : ℕ) → List ℕ
no_wagon gets = if gets == 0 then codes "no free wagon" else codes "no other free wagon"

abbrev pub reason_phrase : (gets : ℕ) → Reason → List ℕ
reason_phrase gets Past = codes "its latest moment is past"
reason_phrase gets Class = no_wagon gets ++ codes " has a class that it lists"
reason_phrase gets Load = no_wagon gets ++ codes " of its classes carries its load"
reason_phrase gets Way = no_wagon gets ++ codes " that suits it has a way to its place"
reason_phrase gets InTime = no_wagon gets ++ codes " that suits it is there in time"
reason_phrase gets Cheaper = no_wagon gets ++ codes " costs less than its penalty"
reason_phrase gets Elsewhere = codes "other orders get the wagons that could go"
