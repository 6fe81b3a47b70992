use Rattle.std.proofs.Common.{◌++◌, sym, ap, ◌∙◌, append_assoc, string_bytes}
use Rattle.std.specs.Prelude.{replicate}
use Rattle.std.specs.List.{concat}
use Rattle.dispatch_sheet.specs.PlanText.{refuse_line}
use Rattle.dispatch_sheet.proofs.PlanLines.{concat-replicate_more}
use Rattle.dispatch_sheet.proofs.plan_lines.push_refuse_lines.Goals as goal

pub loop-missed-preserved : goal.loop-missed-preserved
loop-missed-preserved c =
    let line = refuse_line c.args.problem.now c.args.cells.now c.args.j in
    let first = string_bytes c.args.text.now in
    c.in_ok-push_refuse_line.ensures {u = tt} ∙ ap (λ t. t ++ line) c.loop-missed.invariant
    ∙ append_assoc first (concat (replicate c.loop-missed._missed line)) line ∙ ap (λ t. first ++ t) (sym (concat-replicate_more c.loop-missed._missed line))
