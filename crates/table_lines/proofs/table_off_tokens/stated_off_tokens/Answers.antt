use Rattle.std.proofs.Common.{refl}
use Rattle.serde_json.specs.Data.{object}
use Rattle.table_lines.specs.declared.table_line.TableLine.{TableLine}
use Rattle.table_lines.proofs.FoundLists.{IsStated, is_stated, stated_line_is, within_limits}
use Rattle.table_lines.proofs.table_off_tokens.stated_off_tokens.Goals as goal

abbrev line : goal.After-new-3 → TableLine
line c = record {
  wagons = c.in_ok-wagons-2.field-0;
  orders = c.in_ok-orders.field-0;
  cells = c.in_ok-cells.field-0;
  penalties = c.in_ok-penalties.field-0;
  lacks = c.in_ok-wagons.field-0.lacks;
  pairs = c.new.result;
  u = c.new-2.result;
  v = c.new-3.result;
}

stated : (c : goal.After-new-3) → IsStated (object (c.in_ok-wagons.ensures {u = tt}).0) (line c)
stated c =
    let found = c.in_ok-wagons.ensures {u = tt} in
    is_stated c.in_ok-wagons.field-0 (line c) found.0 found.1 (c.in_ok-wagons-2.was {u = tt}) (c.in_ok-orders.was {u = tt}) (c.in_ok-cells.was {u = tt}) (c.in_ok-penalties.was {u = tt}) refl

pub returns-clause-meaning : goal.returns-clause-meaning
returns-clause-meaning c =
    let found = c.in_ok-wagons.ensures {u = tt} in
    stated_line_is c.args.bytes.now (object found.0) (line c) found.2 (stated c) c.new.ensures.items c.new-2.ensures.items c.new-3.ensures.items

pub returns-clause-limits : goal.returns-clause-limits
returns-clause-limits c = within_limits (object (c.in_ok-wagons.ensures {u = tt}).0) (line c) (stated c)
