use Rattle.table_lines.proofs.FoundLists.{takes_wagons, takes_orders, takes_cells, takes_penalties, takes_lacks, takes_pairs, takes_u, takes_v, passes_cost}
use Rattle.table_lines.proofs.Spelled.{if_some}
use Rattle.table_lines.proofs.found_lists.take_member.Goals as goal

pub returns-in-wagons-clause-member : goal.returns-in-wagons-clause-member
returns-in-wagons-clause-member c =
    if_some c.fill.result _ _ (λ _ f. takes_wagons c.args.lists.now c.args.reader.now c.fill.new.reader c.args.name.now c.fill.new.slot c.in-wagons.is f) c.fill.ensures.filled

pub returns-in-orders-clause-member : goal.returns-in-orders-clause-member
returns-in-orders-clause-member c =
    if_some c.fill-in-orders.result _ _ (λ _ f. takes_orders c.args.lists.now c.args.reader.now c.fill-in-orders.new.reader c.args.name.now c.fill-in-orders.new.slot c.in-orders.is f) c.fill-in-orders.ensures.filled

pub returns-in-cells-clause-member : goal.returns-in-cells-clause-member
returns-in-cells-clause-member c =
    if_some c.fill-in-cells.result _ _ (λ _ f. takes_cells c.args.lists.now c.args.reader.now c.fill-in-cells.new.reader c.args.name.now c.fill-in-cells.new.slot c.in-cells.is f) c.fill-in-cells.ensures.filled

pub returns-in-penalties-clause-member : goal.returns-in-penalties-clause-member
returns-in-penalties-clause-member c =
    if_some c.fill-in-penalties.result _ _ (λ _ f. takes_penalties c.args.lists.now c.args.reader.now c.fill-in-penalties.new.reader c.args.name.now c.fill-in-penalties.new.slot c.in-penalties.is f) c.fill-in-penalties.ensures.filled

pub returns-in-lacks-clause-member : goal.returns-in-lacks-clause-member
returns-in-lacks-clause-member c =
    if_some c.fill-in-lacks.result _ _ (λ _ f. takes_lacks c.args.lists.now c.args.reader.now c.fill-in-lacks.new.reader c.args.name.now c.fill-in-lacks.new.slot c.in-lacks.is f) c.fill-in-lacks.ensures.filled

pub returns-in-pairs-clause-member : goal.returns-in-pairs-clause-member
returns-in-pairs-clause-member c =
    if_some c.fill-in-pairs.result _ _ (λ _ f. takes_pairs c.args.lists.now c.args.reader.now c.fill-in-pairs.new.reader c.args.name.now c.fill-in-pairs.new.slot c.in-pairs.is f) c.fill-in-pairs.ensures.filled

pub returns-in-u-clause-member : goal.returns-in-u-clause-member
returns-in-u-clause-member c =
    if_some c.fill-in-u.result _ _ (λ _ f. takes_u c.args.lists.now c.args.reader.now c.fill-in-u.new.reader c.args.name.now c.fill-in-u.new.slot c.in-u.is f) c.fill-in-u.ensures.filled

pub returns-in-v-clause-member : goal.returns-in-v-clause-member
returns-in-v-clause-member c =
    if_some c.fill-in-v.result _ _ (λ _ f. takes_v c.args.lists.now c.args.reader.now c.fill-in-v.new.reader c.args.name.now c.fill-in-v.new.slot c.in-v.is f) c.fill-in-v.ensures.filled

pub returns-in-cost-clause-member : goal.returns-in-cost-clause-member
returns-in-cost-clause-member c =
    if_some c.skip_number.result _ _ (λ _ s. passes_cost c.args.lists.now c.args.reader.now c.skip_number.new.reader c.args.name.now c.in-cost.is s) c.skip_number.ensures.number
