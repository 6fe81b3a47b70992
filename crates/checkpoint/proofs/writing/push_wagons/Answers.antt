use Rattle.std.proofs.Common.{◌<◌, ◌≤◌, ◌++◌, ◌∷◌, [], ◌∙◌, List, ℕ, length, subst, sym, ap, take, string_bytes, arith}
use Rattle.move_messages.specs.MaxLoad.{max_load}
use Rattle.line_engine.specs.Lines.{line_feed}
use Rattle.wagons_and_orders.specs.declared.wagon_row.WagonRow.{WagonRow}
use Rattle.checkpoint.specs.LineWriting.{IsWagonLine}
use Rattle.checkpoint.specs.declared.line.CheckpointLine.TheVariants.{Wagon}
use Rattle.checkpoint.proofs.Writes.{adds_along, adds_line, taken_more}
use Rattle.checkpoint.proofs.writing.push_wagons.Goals as goal

pub wagon_line-requires : goal.wagon_line-requires
wagon_line-requires c =
    let row = c.row-item.result in
    let below : c.loop-row.row-index < length c.args.rows.now = omega arith in
    subst (λ (r : WagonRow). r.load_limit ≤ max_load) (sym c.row-item.is) (c.requires.few_kg c.loop-row.row-index row below)

pub loop-row-preserved : goal.loop-row-preserved
loop-row-preserved c =
    let rows = c.args.rows.now in
    let i = c.loop-row.row-index in
    let row = c.row-item.result in
    let old = string_bytes c.loop-row.text in
    adds_along IsWagonLine Wagon _ _ (string_bytes c.args.text.now) _ (taken_more rows i row row (omega arith) c.row-item.is)
    (adds_line IsWagonLine Wagon (take i rows) row (string_bytes c.args.text.now) old _ _ c.loop-row.invariant
    (record { text = c.in_ok-wagon_line.ensures.text; says = record { reads = c.in_ok-wagon_line.ensures.reads; one = c.in_ok-wagon_line.ensures.whole } })
    (c.in_ok-push_line.ensures {u = tt} ∙ ap (λ (line : List ℕ). old ++ (line ++ line_feed ∷ [])) c.deref.ensures))
