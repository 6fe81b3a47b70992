use Rattle.std.proofs.Common.{refl}
use Rattle.serde_json.specs.Data.{object}
use Rattle.table_lines.specs.declared.table_line.TableLine.{TableLine}
use Rattle.table_lines.proofs.FoundLists.{IsStated, is_stated, planned_line_is, within_limits}
use Rattle.table_lines.proofs.table_off_tokens.planned_off_tokens.Goals as goal

abbrev line : goal.In_ok-v → TableLine
line c = record {
  wagons = c.in_ok-wagons-2.field-0;
  orders = c.in_ok-orders.field-0;
  cells = c.in_ok-cells.field-0;
  penalties = c.in_ok-penalties.field-0;
  lacks = c.in_ok-wagons.field-0.lacks;
  pairs = c.in_ok-pairs.field-0;
  u = c.in_ok-u.field-0;
  v = c.in_ok-v.field-0;
}

stated : (c : goal.In_ok-v) → IsStated (object (c.in_ok-wagons.ensures {u = tt}).0) (line c)
stated c =
    let found = c.in_ok-wagons.ensures {u = tt} in
    is_stated c.in_ok-wagons.field-0 (line c) found.0 found.1 (c.in_ok-wagons-2.was {u = tt}) (c.in_ok-orders.was {u = tt}) (c.in_ok-cells.was {u = tt}) (c.in_ok-penalties.was {u = tt}) refl

pub returns-clause-meaning : goal.returns-clause-meaning
returns-clause-meaning c =
    let found = c.in_ok-wagons.ensures {u = tt} in
    planned_line_is c.args.bytes.now found.0 c.in_ok-wagons.field-0 (line c) found.2 found.1 (stated c) (c.in_ok-pairs.was {u = tt}) (c.in_ok-u.was {u = tt}) (c.in_ok-v.was {u = tt})

pub returns-clause-limits : goal.returns-clause-limits
returns-clause-limits c = within_limits (object (c.in_ok-wagons.ensures {u = tt}).0) (line c) (stated c)
