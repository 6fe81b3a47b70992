use Rattle.std.proofs.Common.{◌≡◌, None, refl, rules}
use Rattle.table_lines.proofs.found_lists.fill.Goals as goal

pub returns-clause-filled : goal.returns-clause-filled
returns-clause-filled g c =
    let empty : c.args.slot.now ≡ None = search rules in
    (empty, c.in_ok-take_list.field-0, refl, c.in_ok-take_list.ensures.value)
