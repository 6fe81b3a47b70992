use Rattle.std.proofs.Common.{◌≡◌, ◌++◌, append_assoc, refl, rules}
use Rattle.cost_table.specs.RowParts.{cells_in}
use Rattle.cost_table.proofs.RowLemmas.{HoldRows-more, held}
use Rattle.cost_table.proofs.row_block.RowBlock.push.Goals as goal

pub invariant_of-self-2 : goal.invariant_of-self-2
invariant_of-self-2 c =
    let more = cells_in c.args.first ++ c.args.rest.now in
    let entries : c.extend_from_slice-3.new.self.items ≡ c.self.inside.entries.items ++ more = search (rules, append_assoc) in
    held _ _ _ (HoldRows-more c.self.inside.entries.items c.extend_from_slice-3.new.self.items more c.self.inside.ends.items c.push_reserved.new.self.items _ _ entries (search rules) refl c.self.invariant)

pub returns-clause-pushed : goal.returns-clause-pushed
returns-clause-pushed c =
    let more = cells_in c.args.first ++ c.args.rest.now in
    let entries : c.extend_from_slice-3.new.self.items ≡ c.self.inside.entries.items ++ more = search (rules, append_assoc) in
    rw (← c.self.view_is) (HoldRows-more c.self.inside.entries.items c.extend_from_slice-3.new.self.items more c.self.inside.ends.items c.push_reserved.new.self.items _ _ entries (search rules) refl c.self.invariant).rows_are
