use Rattle.std.proofs.Common.{sym, ◌∙◌, codes}
use Rattle.std.specs.Cmp.Lexicographic.{same_text}
use Rattle.line_fields.proofs.plain_message.is_closing_brace.Goals as goal

pub returns : goal.returns
returns c = λ equal. same_text c.args.rest.now (codes "}") (sym equal ∙ c.eq.ensures)
