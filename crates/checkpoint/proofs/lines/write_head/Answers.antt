use Rattle.std.proofs.Common.{◌++◌, codes, ap, ◌∙◌}
use Rattle.std.proofs.lemmas.Result.{on_ok_weaker}
use Rattle.line_fields.specs.Written.{number_data}
use Rattle.line_fields.specs.WrittenTokens.{member_tokens}
use Rattle.checkpoint.proofs.LineTokens.{five-written, head-parts}
use Rattle.checkpoint.proofs.lines.write_head.Goals as goal

pub returns-clause-tokens : goal.returns-clause-tokens
returns-clause-tokens c =
    let newest = (c.in_ok-write_moment_if_there.ensures {u = tt}).tokens in
    let network = (c.in_ok-write_number-2.ensures {u = tt}).tokens ∙ ap (λ n. c.write_number.new.out.tokens ++ member_tokens (codes "network") (number_data n)) c.from.ensures in
    on_ok_weaker c.end_object.result (λ end.
    let whole =
    five-written _ _ _ _ _ _ _ _ _ _ _ (c.in_ok-begin_line.ensures {u = tt}).tokens (c.in_ok-write_number.ensures {u = tt}).tokens
    network newest.tokens end in
    record {
      newest_text = newest.text;
      readable = newest.readable;
      tokens = whole ∙ ap (λ ts. c.args.out.now.tokens ++ ts) (head-parts c.args.network newest.text);
    }) c.end_object.ensures.ok
