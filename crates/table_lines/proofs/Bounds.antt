-- The limits of the numbers that were read.
use Rattle.std.proofs.Common.{◌≡◌, ℕ, Bool, true, false, cond, List, [], ◌∷◌, All, Option, Some, None, Result, Ok, Err, subst}
use Rattle.std.specs.Prelude.{map, is_some, option_map, IfOk, IfSome}
use Rattle.std.specs.Global.{Vec}
use Rattle.std.specs.List.{AllByRecursion}
use Rattle.std.proofs.lemmas.List.Elements.{All-from_recursion, recursion_from_All}
use Rattle.serde_json.specs.Data.{Data}
use Rattle.serde_json.specs.Find.{as_null}
use Rattle.line_fields.specs.declared.field.Field.TheVariants.{Cells, Lacks}
use Rattle.line_fields.specs.declared.fault.FieldFault.{FieldFault}
use Rattle.line_fields.specs.declared.fault.LineFault.{LineFault}
use Rattle.line_fields.specs.Values.{◌>>=◌, number_within, list_of_each}
use Rattle.line_fields.specs.Fields.{Gives}
use Rattle.line_fields.proofs.Bounds.{bind_ok, number_is_within, HoldsOfRead, list_holds, field_holds, optional_field_holds}
use Rattle.move_messages.specs.OrderLimits.{max_order_wagons}
use Rattle.cost_table.specs.TableLimits.{max_cost, IsNumber}
use Rattle.wagons_and_orders.specs.WantedLimits.{IsLack}
use Rattle.table_lines.specs.TableLine.{cell_of, row_of, cells_of, lacks_field}

abbrev done : Option ℕ → Result (Option ℕ) FieldFault
done x = Ok x

ok_is : (x y : Option ℕ) → done x ≡ done y → x ≡ y
ok_is x y e = cc

cell_by : (b : Bool) (d : Data) (x : Option ℕ) → cond b (done None) (number_within 0 max_cost d >>= λ cost. done (Some cost)) ≡ Ok x → IsNumber x
cell_by true d x e = subst IsNumber (ok_is None x e) tt
cell_by false d x e =
    let a = bind_ok (number_within 0 max_cost d) (λ cost. done (Some cost)) x e in
    subst IsNumber (ok_is (Some a.0) x a.2) ((number_is_within 0 max_cost d a.0 a.1).1)

cell_is : HoldsOfRead cell_of IsNumber
unfolding cell_of
cell_is d x e = cell_by (is_some (as_null d)) d x e

all_under : {X Y : Type 0} (P : Y → Type 0) (f : X → Y) (xs : List X) → AllByRecursion P (map f xs) → AllByRecursion (λ x. P (f x)) xs
all_under P f [] h = tt
all_under P f (x ∷ xs) h = (h.0, all_under P f xs h.1)

pub cells_are : (d : Data) (r : Result (Vec (Vec (Option ℕ))) LineFault) → Gives (λ rows. map (λ row. row.items) rows.items) r (cells_of d) → IfOk r (λ rows. All (λ row. All IsNumber row.items) rows.items)
cells_are d (Ok rows) given =
    let whole = field_holds (list_of_each row_of) (All (All IsNumber)) (list_holds row_of (All IsNumber) (list_holds cell_of IsNumber cell_is)) Cells d (map (λ row. row.items) rows.items) given in
    All-from_recursion (λ row. All IsNumber row.items) rows.items (all_under (All IsNumber) (λ row. row.items) rows.items (recursion_from_All (All IsNumber) (map (λ row. row.items) rows.items) whole))
cells_are d (Err e) given = tt

pub lacks_are : (d : Data) (r : Result (Option (Vec ℕ)) LineFault) → Gives (λ lacks. option_map (λ list. list.items) lacks) r (lacks_field d) → IfOk r (λ lacks. IfSome lacks (λ list. All IsLack list.items))
lacks_are d (Ok None) given = tt
lacks_are d (Ok (Some list)) given = optional_field_holds (list_of_each (number_within 1 max_order_wagons)) (All IsLack) (list_holds (number_within 1 max_order_wagons) IsLack (number_is_within 1 max_order_wagons)) Lacks d list.items given
lacks_are d (Err e) given = tt
