use Rattle.std.proofs.Common.{◌++◌, ap, ◌∙◌}
use Rattle.std.proofs.lemmas.Result.{on_ok_weaker}
use Rattle.checkpoint.proofs.LineTokens.{two-written, wagon-parts}
use Rattle.checkpoint.proofs.wagon_tokens.write_wagon.Goals as goal

pub returns-clause-tokens : goal.returns-clause-tokens
returns-clause-tokens c =
    let front = (c.in_ok-write_front.ensures {u = tt}).tokens in
    on_ok_weaker c.write_back.result (λ back.
    let whole = two-written _ _ _ _ _ front.tokens back.tokens in
    record {
      ready = back.ready;
      last = back.last;
      ready_readable = back.ready_readable;
      last_readable = back.last_readable;
      codes_read = record { number = front.number; class = front.class; place = front.place; promise = back.promise };
      tokens = whole ∙ ap (λ ts. c.args.out.now.tokens ++ ts) (wagon-parts c.args.row.now back.ready back.last);
    }) c.write_back.ensures.tokens
