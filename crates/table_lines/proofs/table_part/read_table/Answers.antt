use Rattle.table_lines.proofs.Parts.{line_then_plan}
use Rattle.table_lines.proofs.table_part.read_table.Goals as goal

pub returns-in_err-object-clause-agrees : goal.returns-in_err-object-clause-agrees
returns-in_err-object-clause-agrees c = line_then_plan c.args.bytes.now

pub returns-clause-agrees : goal.returns-clause-agrees
returns-clause-agrees c = line_then_plan c.args.bytes.now

pub returns-in-Some-clause-agrees : goal.returns-in-Some-clause-agrees
returns-in-Some-clause-agrees c = line_then_plan c.args.bytes.now
