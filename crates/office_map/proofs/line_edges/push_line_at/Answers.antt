use Rattle.std.proofs.Common.{◌≡◌, Some, sym, ap, ◌∙◌, string_bytes}
use Rattle.std.specs.Prelude.{slice_get}
use Rattle.std.proofs.lemmas.Result.{on_ok_weaker}
use Rattle.office_map.proofs.LineParts.{line_drawn, line_left_out}
use Rattle.office_map.proofs.line_edges.push_line_at.Goals as goal

pub returns-then-is_left_out : goal.returns-then-is_left_out
returns-then-is_left_out c =
    let here : slice_get c.args.network.now.lines c.args.i ≡ Some c.in-Some.line = ap (λ ls. slice_get ls c.args.i) (sym c.lines.ensures.lines) ∙ sym c.line_at.ensures ∙ c.in-Some.is in
    line_left_out c.args.named.now c.args.network.now c.args.shown.now c.args.i c.in-Some.line here c.args.is_drawn c.requires.drawn (string_bytes c.args.text.now) (sym c.is_left_out.ensures ∙ c.if-is_left_out.true)

pub returns : goal.returns
returns c =
    let network = c.args.network.now in
    let i = c.args.i in
    let here : slice_get network.lines i ≡ Some c.in-Some.line = ap (λ ls. slice_get ls i) (sym c.lines.ensures.lines) ∙ sym c.line_at.ensures ∙ c.in-Some.is in
    let first = sym c.is_left_out.ensures ∙ c.if-is_left_out.false in
    on_ok_weaker c.push_line_edge.result (λ edge. line_drawn c.args.named.now network c.args.shown.now i c.in-Some.line here c.args.is_drawn c.requires.drawn c.args.both (string_bytes c.args.text.now) _ _ first c.requires.both c.in_ok-push_line_node.ensures edge) c.push_line_edge.ensures
