use Rattle.serde_json.specs.View.{view}
use Rattle.line_fields.proofs.Bounds.{numbers_within}
use Rattle.line_fields.proofs.lists.numbers_at.Goals as goal

pub returns-clause-limits : goal.returns-clause-limits
returns-clause-limits c = numbers_within c.args.low c.args.high c.args.field (view c.args.object.now) c.list_at.result c.list_at.ensures
