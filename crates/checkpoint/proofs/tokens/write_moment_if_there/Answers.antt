use Rattle.std.proofs.Common.{Some, sym, subst}
use Rattle.std.proofs.lemmas.Result.{on_ok_weaker}
use Rattle.checkpoint.specs.inner.Readable.{IsReadableIfThere}
use Rattle.checkpoint.proofs.tokens.write_moment_if_there.Goals as goal

pub returns-in-Some-clause-tokens : goal.returns-in-Some-clause-tokens
returns-in-Some-clause-tokens c =
    on_ok_weaker c.write_moment.result (λ added. record { text = Some added.text; readable = subst (λ moment. IsReadableIfThere moment (Some added.text)) (sym c.in-Some.is) added.readable; tokens = added.tokens }) c.write_moment.ensures.tokens
