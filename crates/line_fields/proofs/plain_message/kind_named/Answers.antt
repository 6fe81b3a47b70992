use Rattle.std.proofs.Common.{◌≡◌, ℕ, List, Option, Some, None, IfSome, Ok, sym}
use Rattle.line_fields.specs.LineType.{line_type_of}
use Rattle.line_fields.specs.declared.line_type.LineType.{LineType}
use Rattle.move_messages.specs.declared.message.MessageKind.{MessageKind}
use Rattle.line_fields.specs.inner.PlainMessage.{IsKindOf, IsTypeOf}
use Rattle.line_fields.proofs.plain_message.kind_named.Goals as goal

of_name : (name : List ℕ) (line_type : LineType) (kind : Option MessageKind) → line_type_of name ≡ Ok line_type → IfSome kind (IsKindOf line_type) → IfSome kind (IsTypeOf name)
of_name name line_type None named is = tt
of_name name line_type (Some kind) named is = (line_type, named, is)

pub returns : goal.returns
returns c = of_name c.args.name.now c.in-Ok.line_type c.kind_of.result (sym c.in-Ok.ensures.meaning) c.kind_of.ensures
