use Rattle.std.proofs.Common.{rules, arith, ◌≤◌, length}
use Rattle.line_network.proofs.Lines.{start_first, end_of_steps, own_steps, all_steps}
use Rattle.line_network.proofs.lines_by_origin.LinesByOrigin.from_place.Goals as goal

pub slice_bounds-result-count : goal.slice_bounds-result-count
slice_bounds-result-count c = start_first _ _ c.args.place _ _ c.args.self.now.indexed (omega arith) c.index-start.ensures c.index-end.ensures

pub slice_bounds-result-start : goal.slice_bounds-result-start
slice_bounds-result-start c = let s : c.index-start.result.now ≤ c.index-end.result.now = start_first _ _ c.args.place _ _ c.args.self.now.indexed (omega arith) c.index-start.ensures c.index-end.ensures in let e : c.index-end.result.now ≤ length c.args.self.now.steps.items = end_of_steps _ _ c.args.place _ _ c.args.self.now.indexed (omega arith) c.index-start.ensures c.index-end.ensures _ c.args.self.now.stepped in search rules

pub returns-clause-own : goal.returns-clause-own
returns-clause-own c = rw c.deref.ensures.value (own_steps _ _ c.args.place _ _ c.args.self.now.indexed (omega arith) c.index-start.ensures c.index-end.ensures _ c.args.self.now.stepped)

pub returns-clause-complete : goal.returns-clause-complete
returns-clause-complete c = rw c.deref.ensures.value (all_steps _ _ c.args.place _ _ c.args.self.now.indexed (omega arith) c.index-start.ensures c.index-end.ensures _ c.args.self.now.stepped)
