use Rattle.std.proofs.Common.{sym, arith}
use Rattle.serde_json.specs.View.{view}
use Rattle.line_fields.proofs.Items.{pair_of_needs_two}
use Rattle.line_fields.proofs.kind.PairKindItemKind.read.Goals as goal
use Rattle.line_fields.proofs.kind.PairKindItemKind.read.Goals.{in_default-via-then-branch-lt2, in_default-via-else-branch-lt2+else-this-lt3}

pub returns-in_default : goal.returns-in_default
returns-in_default c =
    sym (pair_of_needs_two (view c.args.value.now) c.in_ok-list_of.field-0.now (sym c.in_ok-list_of.ensures) (elim c.in_default.branch [ in_default-via-then-branch-lt2 w ↦ λ e. grind arith | in_default-via-else-branch-lt2+else-this-lt3 w ↦ λ e. grind arith ]))
