use Rattle.std.proofs.Common.{◌≡◌, ◌∙◌, ◌+◌, ◌++◌, ◌∷◌, [], List, ℕ, true, false, Bool, cond, subst, sym, ap, take, string_bytes, arith, append-nil}
use Rattle.std.specs.List.{filter}
use Rattle.line_engine.specs.Lines.{line_feed}
use Rattle.wagons_and_orders.specs.Lack.{is_open}
use Rattle.checkpoint.specs.Checkpoint.{order_said}
use Rattle.checkpoint.specs.inner.Lines.{AddsLines}
use Rattle.checkpoint.specs.LineWriting.{IsOrderLine}
use Rattle.checkpoint.proofs.Writes.{adds_along, adds_line, filter_more}
use Rattle.checkpoint.proofs.writing.push_orders.Goals as goal
use Rattle.checkpoint.proofs.writing.push_orders.Goals.{then-is_open+in_ok-order_line+in_ok-push_line, else-is_open}

pub loop-row-preserved : goal.loop-row-preserved
loop-row-preserved c =
    let rows = c.args.rows.now in
    let i = c.loop-row.row-index in
    let row = c.row-item.result in
    let first = string_bytes c.args.text.now in
    let old = string_bytes c.loop-row.text in
    let more : filter is_open (take (i + 1) rows) ≡ filter is_open (take i rows) ++ cond (is_open row) (row ∷ []) [] = filter_more is_open rows i row row (omega arith) c.row-item.is in
    elim c.if-is_open.branch [
      | then-is_open+in_ok-order_line+in_ok-push_line w ↦
          let opened : is_open row ≡ true = sym c.is_open.ensures.value ∙ w.if-is_open.true in
          let kept : filter is_open (take i rows) ++ row ∷ [] ≡ filter is_open (take (i + 1) rows) = sym (more ∙ ap (λ (b : Bool). filter is_open (take i rows) ++ cond b (row ∷ []) []) opened) in
          subst (λ text. AddsLines IsOrderLine order_said (filter is_open (take (i + 1) rows)) first (string_bytes text)) (sym w.text-is)
          (adds_along IsOrderLine order_said _ _ first _ kept
          (adds_line IsOrderLine order_said (filter is_open (take i rows)) row first old _ _ c.loop-row.invariant
          (record { text = w.in_ok-order_line.ensures.text; says = record { reads = w.in_ok-order_line.ensures.reads; one = w.in_ok-order_line.ensures.whole } })
          (w.in_ok-push_line.ensures {u = tt} ∙ ap (λ (line : List ℕ). old ++ (line ++ line_feed ∷ [])) w.deref.ensures)))
      | else-is_open w ↦
          let closed : is_open row ≡ false = sym c.is_open.ensures.value ∙ w.if-is_open.false in
          let kept : filter is_open (take i rows) ≡ filter is_open (take (i + 1) rows) =
          sym (more ∙ (ap (λ (b : Bool). filter is_open (take i rows) ++ cond b (row ∷ []) []) closed ∙ append-nil (filter is_open (take i rows)))) in
          subst (λ text. AddsLines IsOrderLine order_said (filter is_open (take (i + 1) rows)) first (string_bytes text)) (sym w.text-is)
          (adds_along IsOrderLine order_said _ _ first _ kept c.loop-row.invariant)
    ]
