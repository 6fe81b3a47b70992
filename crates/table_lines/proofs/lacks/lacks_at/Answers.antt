use Rattle.serde_json.specs.View.{view}
use Rattle.table_lines.proofs.Bounds.{lacks_are}
use Rattle.table_lines.proofs.lacks.lacks_at.Goals as goal

pub returns-clause-limits : goal.returns-clause-limits
returns-clause-limits c = lacks_are (view c.args.object.now) c.optional_list_at.result c.optional_list_at.ensures
