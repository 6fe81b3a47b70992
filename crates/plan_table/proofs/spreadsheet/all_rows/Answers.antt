use Rattle.std.proofs.Common.{◌∙◌, ◌∷◌, [], ◌++◌, ap}
use Rattle.plan_table.proofs.MadeRows.{AreCsvRows-made}
use Rattle.plan_table.proofs.spreadsheet.all_rows.Goals as goal

pub returns : goal.returns
returns c =
    AreCsvRows-made c.args.places.now c.args.clock.now c.args.plan.now c.deref.result.now c.deref-2.result.now c.push.new.self.items c.push_journeys.new.rows.items c.push_shortfalls.new.rows.items
    c.deref.ensures.value c.deref-2.ensures.value (c.in_ok-push.ensures.items ∙ ap (λ xs. xs ++ c.in_ok-titles_row.field-0 ∷ []) c.new-rows.ensures.items ∙ ap (λ x. x ∷ []) c.in_ok-titles_row.ensures)
    (c.in_ok-push_journeys.ensures {u = tt}) (c.in_ok-push_shortfalls.ensures {u = tt})
