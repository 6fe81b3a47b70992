use Rattle.std.proofs.Common.{◌++◌, ◌∙◌, List, ap, append_assoc, string_bytes, ℕ}
use Rattle.std.specs.Prelude.{codes}
use Rattle.plan_table.specs.TableText.{numbered}
use Rattle.plan_table.proofs.table.push_parts.Goals as goal

pub returns : goal.returns
returns c =
    let old : List ℕ = string_bytes c.args.text.now in
    let driven : List ℕ = numbered (codes " km: ") c.args.driven in
    let penalties : List ℕ = numbered (codes " km to drive, ") c.args.penalties in
    c.in_ok-push_str.ensures.bytes
    ∙ ap (λ t. t ++ codes " km of penalties\n") (c.in_ok-push_words-2.ensures ∙ ap (λ t. t ++ penalties) c.in_ok-push_words.ensures ∙ append_assoc old driven penalties)
    ∙ append_assoc old (driven ++ penalties) (codes " km of penalties\n")
