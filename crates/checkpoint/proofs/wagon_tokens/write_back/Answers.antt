use Rattle.std.proofs.Common.{subst}
use Rattle.std.proofs.lemmas.Result.{on_ok_weaker}
use Rattle.checkpoint.specs.inner.Readable.{IsReadableIfThere}
use Rattle.checkpoint.proofs.LineTokens.{five-written}
use Rattle.checkpoint.proofs.wagon_tokens.write_back.Goals as goal

pub returns-clause-tokens : goal.returns-clause-tokens
returns-clause-tokens c =
    let ready = (c.in_ok-write_moment_if_there.ensures {u = tt}).tokens in
    let last = (c.in_ok-write_moment.ensures {u = tt}).tokens in
    on_ok_weaker c.end_object.result (λ end.
    let whole =
    five-written _ _ _ _ _ _ _ _ _ _ _ ready.tokens last.tokens (c.in_ok-write_boolean.ensures {u = tt}).tokens (c.in_ok-write_promise.ensures {u = tt}).tokens end in
    record {
      ready = ready.text;
      last = last.text;
      ready_readable = subst (λ moment. IsReadableIfThere moment ready.text) c.ready.ensures ready.readable;
      last_readable = last.readable;
      promise = c.write_promise.ensures.read;
      tokens = whole;
    }) c.end_object.ensures.ok
