use Rattle.std.proofs.Common.{◌≡◌, ◌∙◌, ap, replicate, rules, IfOk, None}
use Rattle.std.proofs.lemmas.Result.{IfOk-weaker}
use Rattle.line_network.specs.inner.Lengths.{known}
use Rattle.line_network.proofs.Numbering.{known_replicate}
use Rattle.line_network.proofs.search.unreached.Goals as goal

pub returns-clause-none : goal.returns-clause-none
returns-clause-none c =
    let filled : IfOk c.vec.result (λ labels. labels.items ≡ replicate c.args.places c.unreached.result) = search rules in
    IfOk-weaker c.vec.result (λ labels. labels.items ≡ replicate c.args.places c.unreached.result) (λ labels. known labels.items ≡ replicate c.args.places None)
    (λ labels same. ap known same ∙ known_replicate _ _ c.unreached.ensures) filled
