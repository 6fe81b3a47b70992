use Rattle.std.proofs.Common.{◌∙◌, append-nil, sym, arith, ◌≡◌, ◌+◌, ◌-◌, ◌++◌, length, drop, ap}
use Rattle.std.proofs.Math.Seq.{drop-append-add}
use Rattle.cost_table.proofs.row.Row.split_at.Goals as goal

pub returns-else-count-self-clause-behind : goal.returns-else-count-self-clause-behind
returns-else-count-self-clause-behind c =
    let n = c.args.count - length c.args.self.first.now in
    let count : c.args.count ≡ length c.args.self.first.now + n = omega (arith, c.if-count-self.false) in
    append-nil _ ∙ (c.split_at-else-count-self.ensures.back ∙ (sym (drop-append-add c.args.self.first.now c.args.self.rest.now n) ∙ ap (λ k. drop k (c.args.self.first.now ++ c.args.self.rest.now)) (sym count)))
