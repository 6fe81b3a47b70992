use Rattle.std.proofs.Common.{◌++◌, ap, ◌∙◌}
use Rattle.std.proofs.lemmas.Result.{on_ok_weaker}
use Rattle.checkpoint.proofs.LineTokens.{two-written, order-parts}
use Rattle.checkpoint.proofs.order_tokens.write_order.Goals as goal

pub returns-clause-tokens : goal.returns-clause-tokens
returns-clause-tokens c =
    let front = (c.in_ok-write_front.ensures {u = tt}).tokens in
    on_ok_weaker c.write_back.result (λ back.
    let whole = two-written _ _ _ _ _ front.tokens back.tokens in
    record {
      latest = back.latest;
      readable = back.readable;
      codes_read = record { id = front.id; place = front.place; classes = front.classes; class_count = front.class_count; promised = back.promised; filled = back.filled };
      limits = front.limits;
      valid = back.valid;
      tokens = whole ∙ ap (λ ts. c.args.out.now.tokens ++ ts) (order-parts c.args.row.now back.latest);
    }) c.write_back.ensures.tokens
