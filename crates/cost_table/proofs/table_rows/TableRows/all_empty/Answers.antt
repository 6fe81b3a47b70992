use Rattle.std.proofs.Common.{◌≡◌, ◌∙◌, [], replicate, refl, rules}
use Rattle.cost_table.specs.declared.table_rows.RowPlace.{RowPlace}
use Rattle.cost_table.proofs.AmongLemmas.{rows_empty}
use Rattle.cost_table.proofs.table_rows.TableRows.all_empty.Goals as goal

pub returns-clause-rows : goal.returns-clause-rows
returns-clause-rows c =
    let shared : c.in_ok-new.field-0.value ≡ [] = c.in_ok-new.ensures.ok ∙ c.new.ensures in
    let nowhere : RowPlace = record { shared = 0; count = 0; own = 0 } in
    let places : c.in_ok-from_elem.field-0.items ≡ replicate c.args.count nowhere = search rules in
    rw (c.new-3.ensures, shared, places) (rows_empty c.args.count nowhere refl refl)
