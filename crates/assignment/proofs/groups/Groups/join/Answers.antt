use Rattle.std.proofs.Common.{refl, arith}
use Rattle.std.specs.Vec.{with_item}
use Rattle.std.proofs.lemmas.List.{get_or_read}
use Rattle.assignment.proofs.Joining.{grouped_joined}
use Rattle.assignment.proofs.groups.Groups.join.Goals as goal

pub returns-clause-groups : goal.returns-clause-groups
returns-clause-groups c =
    let groups = c.args.self.now in
    let h = c.requires.groups in
    let counts = h.counts in
    let within = c.requires.within in
    let last = get_or_read groups.last.items c.args.group c.index-last.result.now (omega (arith, within, counts)) c.index-last.ensures 0 in
    grouped_joined c.args.cells.now groups c.args.i c.args.group c.index-last.result.now c.push_reserved.new.self (with_item groups.last c.args.group c.args.i) (with_item groups.next c.index-last.result.now c.args.i) c.requires.table.wagons h c.requires.wagon within c.requires.same last c.push_reserved.ensures.items refl refl
