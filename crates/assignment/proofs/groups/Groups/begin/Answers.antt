use Rattle.std.proofs.Common.{◌≡◌, ◌++◌, ◌∷◌, [], length, ◌∙◌, ap, arith}
use Rattle.assignment.proofs.Joining.{grouped_begun}
use Rattle.assignment.proofs.groups.Groups.begin.Goals as goal

pub returns-clause-groups : goal.returns-clause-groups
returns-clause-groups c =
    let groups = c.args.self.now in
    let count : c.len.result ≡ length groups.first.items = omega (arith, c.len.ensures, groups.first.ok.0) in
    grouped_begun c.args.cells.now groups c.args.i c.push_reserved.new.self c.push_reserved-3.new.self c.push_reserved-2.new.self c.requires.table.wagons c.requires.groups c.requires.wagon (c.push_reserved.ensures.items ∙ ap (λ x. groups.of.items ++ x ∷ []) count) c.push_reserved-2.ensures.items c.push_reserved-3.ensures.items
