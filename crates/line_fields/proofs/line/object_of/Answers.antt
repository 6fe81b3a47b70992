use Rattle.std.proofs.Common.{sym, ◌∙◌}
use Rattle.serde_json.specs.View.{view}
use Rattle.line_fields.proofs.Lines.{object_of-ok, object_of-other, object_of-none, no_fact_at_false}
use Rattle.line_fields.proofs.line.object_of.Goals as goal

pub returns-in-Err-2-clause-meaning : goal.returns-in-Err-2-clause-meaning
returns-in-Err-2-clause-meaning c = λ _. object_of-none c.args.bytes.now (c.in-Err.ensures.err (no_fact_at_false c.is_memory.result c.is_memory.ensures c.if-is_memory.false))

pub returns-then-not-is_object-clause-meaning : goal.returns-then-not-is_object-clause-meaning
returns-then-not-is_object-clause-meaning c = λ _. object_of-other c.args.bytes.now (view c.in-Ok.value) c.in-Ok.ensures.ok.0 c.in-Ok.ensures.ok.1 (sym c.is_object.ensures ∙ c.if-not-is_object.true)

pub returns-clause-meaning : goal.returns-clause-meaning
returns-clause-meaning c = object_of-ok c.args.bytes.now (view c.in-Ok.value) c.in-Ok.ensures.ok.0 c.in-Ok.ensures.ok.1 (sym c.is_object.ensures ∙ c.if-not-is_object.false)
