use Rattle.std.proofs.Common.{◌∙◌, ◌≤◌, ◌++◌, ◌∷◌, [], List, ℕ, length, ap, sym, subst, string_bytes, arith}
use Rattle.line_engine.specs.Lines.{line_feed}
use Rattle.wagons_and_orders.specs.declared.wagon_row.WagonRow.{WagonRow}
use Rattle.wagons_and_orders.specs.OrderRow.{OrderRowValue}
use Rattle.fleet_rows.specs.Rows.{open_wagons}
use Rattle.checkpoint.proofs.Writes.{IsWritten, few_lines, whole}
use Rattle.checkpoint.proofs.writing.checkpoint_text.Goals as goal

pub overflow_add-before-2 : goal.overflow_add-before-2
overflow_add-before-2 c =
    let wagons : length c.wagon_rows-wagons.result.now ≤ 1000 = subst (λ (rows : List WagonRow). length rows ≤ 1000) (sym c.wagon_rows-wagons.ensures.rows) c.wagon_rows-wagons.ensures.valid.few in
    let wanted : open_wagons c.order_rows-orders.result.now ≤ 500 = subst (λ (rows : List OrderRowValue). open_wagons rows ≤ 500) (sym c.order_rows-orders.ensures.rows) c.order_rows-orders.ensures.valid.few_open in
    let few = few_lines (length c.wagon_rows-wagons.result.now) c.order_rows-orders.result.now c.open_orders.result wagons wanted c.open_orders.ensures in
    omega (arith, few)

pub end_line-requires : goal.end_line-requires
end_line-requires c =
    let wagons : length c.wagon_rows-wagons.result.now ≤ 1000 = subst (λ (rows : List WagonRow). length rows ≤ 1000) (sym c.wagon_rows-wagons.ensures.rows) c.wagon_rows-wagons.ensures.valid.few in
    let wanted : open_wagons c.order_rows-orders.result.now ≤ 500 = subst (λ (rows : List OrderRowValue). open_wagons rows ≤ 500) (sym c.order_rows-orders.ensures.rows) c.order_rows-orders.ensures.valid.few_open in
    let few = few_lines (length c.wagon_rows-wagons.result.now) c.order_rows-orders.result.now c.open_orders.result wagons wanted c.open_orders.ensures in
    omega (arith, few)

text_is : (c : goal.After-drop-2) → IsWritten c.args.state.now.networks c.args.state.now.office (string_bytes c.push_line-2.new.text)
text_is c =
    let office = c.args.state.now.office in
    let a = string_bytes c.new-text.result in
    let d = string_bytes c.push_orders.new.text in
    whole c.args.state.now.networks office c.wagon_rows-wagons.result.now c.order_rows-orders.result.now c.network.result c.newest.result c.open_orders.result
    a (string_bytes c.push_line.new.text) (string_bytes c.push_wagons.new.text) d (string_bytes c.push_line-2.new.text) (string_bytes c.in_ok-head_line.field-0) (string_bytes c.in_ok-end_line.field-0)
    c.for_the_prover.ensures.first c.wagon_rows-wagons.ensures.rows c.order_rows-orders.ensures.rows c.network.ensures.value c.newest.ensures c.open_orders.ensures
    c.new-text.ensures.bytes
    (c.in_ok-push_line.ensures {u = tt} ∙ ap (λ (line : List ℕ). a ++ (line ++ line_feed ∷ [])) c.deref.ensures)
    (c.in_ok-push_wagons.ensures {u = tt}) (c.in_ok-push_orders.ensures {u = tt})
    (c.in_ok-push_line-2.ensures {u = tt} ∙ ap (λ (line : List ℕ). d ++ (line ++ line_feed ∷ [])) c.deref-2.ensures)
    c.in_ok-head_line.ensures.text (record { reads = c.in_ok-head_line.ensures.reads; one = c.in_ok-head_line.ensures.whole })
    c.in_ok-end_line.ensures.text (record { reads = c.in_ok-end_line.ensures.reads; one = c.in_ok-end_line.ensures.whole })

pub returns-clause-text : goal.returns-clause-text
returns-clause-text c = (text_is c).is_text

pub returns-clause-reads : goal.returns-clause-reads
returns-clause-reads c = (text_is c).reads

pub returns-clause-short : goal.returns-clause-short
returns-clause-short c = (text_is c).short
