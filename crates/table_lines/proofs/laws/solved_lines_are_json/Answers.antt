use Rattle.table_lines.proofs.ObjectLines.{outputs_are_objects, refusals_are_read, replies_are_objects}
use Rattle.table_lines.proofs.laws.solved_lines_are_json.Goals as goal

pub returns : goal.returns
returns c = record { replies = replies_are_objects; refusals = refusals_are_read; outputs = outputs_are_objects }
