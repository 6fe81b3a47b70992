use Rattle.std.proofs.Common.{◌++◌, ◌-◌, ◌∙◌, ap, append_assoc, string_bytes}
use Rattle.std.specs.Prelude.{codes}
use Rattle.std.proofs.lemmas.Result.{on_ok_weaker}
use Rattle.plan_table.specs.TableText.{numbered, sum_parts}
use Rattle.plan_table.proofs.table.push_sum.Goals as goal

pub returns : goal.returns
returns c =
    on_ok_weaker c.push_parts.result
    (λ added. added ∙ ap (λ t. t ++ sum_parts c.args.driven c.saturating_sub.result) c.in_ok-push_words.ensures
    ∙ append_assoc (string_bytes c.args.text.now) (numbered (codes "\nsum ") c.args.sum) (sum_parts c.args.driven c.saturating_sub.result)
    ∙ ap (λ n. string_bytes c.args.text.now ++ (numbered (codes "\nsum ") c.args.sum ++ sum_parts c.args.driven n)) c.saturating_sub.ensures) c.push_parts.ensures
