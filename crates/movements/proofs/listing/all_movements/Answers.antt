use Rattle.std.proofs.Common.{◌∙◌, ◌≡◌, Some, ap, subst, sym}
use Rattle.std.specs.Prelude.{List, slice_get}
use Rattle.std.proofs.lemmas.Option.{slice_get-get_or}
use Rattle.fleet_rows.proofs.Wagons.{wagon_in-there}
use Rattle.wagons_and_orders.specs.declared.wagon_row.WagonRow.{WagonRow}
use Rattle.movements.proofs.Listed.{movements_more}
use Rattle.movements.proofs.listing.all_movements.Goals as goal

pub push_movement-requires : goal.push_movement-requires
push_movement-requires c =
    let rows = c.wagon_rows-row-items.result.now in
    let row = c.row-item.result in
    let there : slice_get rows c.loop-row.row-index ≡ Some row = slice_get-get_or rows c.loop-row.row-index row c.loop-row-test.true ∙ ap Some (sym c.row-item.is) in
    let same = c.wagon_rows-row-items.ensures.rows in
    wagon_in-there c.args.state.now.office.wagons c.loop-row.row-index row c.wagon_rows-row-items.ensures.valid.ascending (subst (λ (rs : List WagonRow). slice_get rs c.loop-row.row-index ≡ Some row) same there)

pub loop-row-preserved : goal.loop-row-preserved
loop-row-preserved c =
    movements_more c.args.tables.now c.args.at c.args.state.now.office.orders c.wagon_rows-row-items.result.now c.loop-row.row-index c.row-item.result c.row-item.result c.loop-row.movements.items c.push_movement.new.movements.items
    c.loop-row-test.true c.row-item.is c.loop-row.invariant (c.in_ok-push_movement.ensures {u = tt})
