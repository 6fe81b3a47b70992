use Rattle.table_lines.specs.TableLine.{table_text}
use Rattle.table_lines.proofs.Parts.{costs_of_plans}
use Rattle.table_lines.proofs.stating.stated_table.Goals as goal

pub returns-in_err-lacks-clause-checked : goal.returns-in_err-lacks-clause-checked
returns-in_err-lacks-clause-checked c = costs_of_plans (table_text c.args.table.now)

pub returns-then-is_too_large-clause-checked : goal.returns-then-is_too_large-clause-checked
returns-then-is_too_large-clause-checked c = costs_of_plans (table_text c.args.table.now)

pub returns-in_err-names-clause-checked : goal.returns-in_err-names-clause-checked
returns-in_err-names-clause-checked c = costs_of_plans (table_text c.args.table.now)

pub returns-in_err-cells-clause-checked : goal.returns-in_err-cells-clause-checked
returns-in_err-cells-clause-checked c = costs_of_plans (table_text c.args.table.now)

pub returns-clause-checked : goal.returns-clause-checked
returns-clause-checked c = costs_of_plans (table_text c.args.table.now)
