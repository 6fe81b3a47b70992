use Rattle.std.proofs.Common.{◌++◌, codes, ap, subst, ◌∙◌}
use Rattle.std.proofs.lemmas.Result.{on_ok_weaker}
use Rattle.serde_json.specs.Data.{string}
use Rattle.line_fields.specs.Written.{list_data, number_data}
use Rattle.line_fields.specs.WrittenTokens.{member_tokens}
use Rattle.checkpoint.specs.inner.Readable.{AreNumbersRead, IsReadableText}
use Rattle.checkpoint.proofs.LineTokens.{six-written}
use Rattle.checkpoint.proofs.order_tokens.write_back.Goals as goal

pub returns-clause-tokens : goal.returns-clause-tokens
returns-clause-tokens c =
    let is = c.text-order.ensures in
    let latest = (c.in_ok-write_moment.ensures {u = tt}).tokens in
    let latest_is = c.latest.ensures ∙ ap (λ order. order.latest) is in
    let penalty_is = c.penalty.ensures.value ∙ ap (λ order. order.penalty) is in
    let wagons_are = c.from.ensures ∙ c.wagons.ensures.value ∙ ap (λ order. order.wagons) is in
    let penalty = (c.in_ok-write_number.ensures {u = tt}).tokens ∙ ap (λ n. c.write_moment.new.out.tokens ++ member_tokens (codes "penalty") (number_data n)) penalty_is in
    let wagons = (c.in_ok-write_number-2.ensures {u = tt}).tokens ∙ ap (λ n. c.write_number.new.out.tokens ++ member_tokens (codes "wagons") (number_data n)) wagons_are in
    let promised = (c.in_ok-write_codes.ensures {u = tt}).tokens ∙ ap (λ texts. c.write_number-2.new.out.tokens ++ member_tokens (codes "promised") (list_data string texts)) c.promised.ensures.value in
    let filled = (c.in_ok-write_codes-2.ensures {u = tt}).tokens ∙ ap (λ texts. c.write_codes.new.out.tokens ++ member_tokens (codes "filled") (list_data string texts)) c.filled.ensures.value in
    on_ok_weaker c.end_object.result (λ end.
    let whole = six-written _ _ _ _ _ _ _ _ _ _ _ _ _ latest.tokens penalty wagons promised filled end in
    record {
      latest = latest.text;
      readable = subst (λ moment. IsReadableText moment latest.text) latest_is latest.readable;
      promised = subst AreNumbersRead c.promised.ensures.value (c.in_ok-write_codes.ensures {u = tt}).read;
      filled = subst AreNumbersRead c.filled.ensures.value (c.in_ok-write_codes-2.ensures {u = tt}).read;
      valid = c.promised.ensures.valid;
      tokens = whole;
    }) c.end_object.ensures.ok
