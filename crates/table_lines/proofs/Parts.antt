-- The table that a line states, and then its plan.
use Rattle.std.proofs.Common.{◌≡◌, ℕ, Bool, true, false, cond, List, Result, Ok, Err, length, refl, ap}
use Rattle.serde_json.specs.Data.{Data}
use Rattle.cost_table.specs.Names.{NameLists}
use Rattle.cost_table.specs.DistinctNames.{names_or_fault}
use Rattle.cost_table.specs.Table.{Table}
use Rattle.faults.specs.declared.faults.TableFault.{TableFault}
use Rattle.faults.specs.declared.faults.TableFault.TheVariants.{TooLarge}
use Rattle.line_fields.specs.declared.fault.LineFault.{LineFault}
use Rattle.line_fields.specs.Values.{◌>>=◌}
use Rattle.line_fields.specs.Line.{object_of}
use Rattle.price_checker.specs.NamedPairs.{checked}
use Rattle.table_lines.specs.TableLine.{TableText, table_line_of, table_of, table_text_of, with_plan_of}
use Rattle.table_lines.specs.TablePart.{table_then_plan}
use Rattle.table_lines.specs.StatedTable.{CostsOfPlans, stated_in}
use Rattle.table_lines.specs.TableCost.{cost_of_text, cost_of_line, even_table, is_too_large, lacks_in, with_check_fault, with_line_fault, with_table_fault}
use Rattle.table_lines.specs.declared.table_refusal.TableRefusal.{TableRefusal}
use Rattle.table_lines.specs.declared.table_refusal.TableRefusal.TheVariants.{Table as OfTable}

then_plan : (r : Result Data LineFault) → (r >>= table_text_of) ≡ (r >>= λ d. table_of d >>= with_plan_of d)
unfolding table_text_of
then_plan (Err e) = refl
then_plan (Ok d) = refl

-- a line is read as its table and then its plan
pub line_then_plan : (bytes : List ℕ) → table_line_of bytes ≡ table_then_plan bytes
unfolding table_line_of
line_then_plan bytes = then_plan (object_of bytes)

-- ---- a stated table

stated_then : (b : Bool) (names : Result NameLists TableRefusal) (even : Result Table TableRefusal) (check : NameLists → Table → Result ℕ TableRefusal)
    → cond b (Err (OfTable TooLarge)) (names >>= λ n. even >>= λ t. check n t)
    ≡ (cond b (Err (OfTable TooLarge)) (names >>= λ n. even >>= λ t. Ok (n, t)) >>= λ (s : NameLists × Table). check s.0 s.1)
stated_then true names even check = refl
stated_then false (Err e) even check = refl
stated_then false (Ok n) (Err e) check = refl
stated_then false (Ok n) (Ok t) check = refl

pub costs_of_plans : (t : TableText) → CostsOfPlans t
unfolding cost_of_text stated_in
costs_of_plans t pairs u v =
    stated_then (is_too_large t) (with_table_fault (names_or_fault t.wagons t.orders)) (even_table (length t.wagons) (length t.orders) t.cells t.penalties (lacks_in t))
    (λ n s. with_check_fault (checked n s pairs u v))

-- what a stated table was made of
pub record StatedParts (t : TableText) (names : NameLists) (table : Table) : Type 0 where
  pub named : names_or_fault t.wagons t.orders ≡ Ok names
  pub even : even_table (length t.wagons) (length t.orders) t.cells t.penalties (lacks_in t) ≡ Ok table

abbrev both_parts : NameLists → Table → Result (NameLists × Table) TableRefusal
both_parts n t = Ok (n, t)

abbrev both_done : NameLists × Table → Result (NameLists × Table) TableRefusal
both_done p = Ok p

both_are : (p q : NameLists × Table) → both_done p ≡ both_done q → p ≡ q
both_are p q h = cc

parts_by : (b : Bool) (names : Result NameLists TableFault) (even : Result Table TableRefusal) (n : NameLists) (t : Table)
    → cond b (Err (OfTable TooLarge)) (with_table_fault names >>= λ m. even >>= λ s. both_parts m s) ≡ both_parts n t → (names ≡ Ok n) × (even ≡ Ok t)
parts_by true names even n t h = absurd cc
parts_by false (Err e) even n t h = absurd cc
parts_by false (Ok m) (Err e) n t h = absurd cc
parts_by false (Ok m) (Ok s) n t h =
    let e = both_are (m, s) (n, t) h in
    (ap (λ (p : NameLists × Table). Ok p.0) e, ap (λ (p : NameLists × Table). Ok p.1) e)

pub stated_parts : (t : TableText) (names : NameLists) (table : Table) → stated_in t ≡ Ok (names, table) → StatedParts t names table
unfolding stated_in
stated_parts t names table h =
    let f = parts_by (is_too_large t) (names_or_fault t.wagons t.orders) (even_table (length t.wagons) (length t.orders) t.cells t.penalties (lacks_in t)) names table h in
    record { named = f.0; even = f.1 }

-- what the check of a line answers is what it says of the table that was read
pub cost_of_read : (bytes : List ℕ) (t : TableText) → table_line_of bytes ≡ Ok t → cost_of_line bytes ≡ cost_of_text t
unfolding cost_of_line
cost_of_read bytes t h = ap (λ (r : Result TableText LineFault). with_line_fault r >>= cost_of_text) h
