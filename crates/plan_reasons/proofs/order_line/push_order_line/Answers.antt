use Rattle.std.proofs.lemmas.Result.{on_ok_weaker}
use Rattle.plan_reasons.proofs.Lines.{line_of_order, some_there}
use Rattle.plan_reasons.proofs.order_line.push_order_line.Goals as goal

pub returns : goal.returns
returns c =
    let net = c.args.planned.now.network in
    let problem = c.args.planned.now.problem in
    let wanted = some_there problem.orders c.args.j c.requires.order in
    on_ok_weaker c.push_last.result (λ last. line_of_order c.args.style c.args.numbers net problem c.args.planned.now.priced c.args.j wanted.0 c.in_ok-counts.counts _ _ _ _ wanted.1 (c.in_ok-counts.ensures wanted.0 wanted.1) c.in_ok-push_order_fields.ensures.numbers c.in_ok-push_counts.ensures.numbers c.in_ok-push_order_fields.ensures.text c.in_ok-push_counts.ensures.text last) c.push_last.ensures
