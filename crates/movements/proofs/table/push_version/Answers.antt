use Rattle.std.proofs.Common.{◌++◌, ◌∙◌, ap, append_assoc, string_bytes}
use Rattle.std.specs.Prelude.{codes, decimal}
use Rattle.std.proofs.lemmas.Result.{on_ok_weaker}
use Rattle.movements.proofs.table.push_version.Goals as goal

pub returns : goal.returns
returns c =
    on_ok_weaker c.push_number.result (λ added.
    added ∙ ap (λ t. t ++ decimal c.args.version) c.in_ok-push_str.ensures.bytes ∙ append_assoc (string_bytes c.args.text.now) (codes "movements of version ") (decimal c.args.version)) c.push_number.ensures
