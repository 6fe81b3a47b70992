use Rattle.std.proofs.Common.{◌≡◌, ◌++◌, codes, Ok, ap, subst, ◌∙◌}
use Rattle.std.proofs.lemmas.Result.{on_ok_weaker}
use Rattle.serde_json.specs.Data.{string}
use Rattle.rail_codes.specs.Place.{place_read}
use Rattle.line_fields.specs.Written.{number_data}
use Rattle.line_fields.specs.WrittenTokens.{member_tokens}
use Rattle.checkpoint.proofs.LineTokens.{six-written}
use Rattle.checkpoint.proofs.wagon_tokens.write_front.Goals as goal

pub returns-clause-tokens : goal.returns-clause-tokens
returns-clause-tokens c =
    let status = (c.in_ok-write_text.ensures {u = tt}).tokens ∙ ap (λ word. c.write_number.new.out.tokens ++ member_tokens (codes "status") (string word)) c.word.ensures.word in
    let load = (c.in_ok-write_number.ensures {u = tt}).tokens ∙ ap (λ n. c.write_code-2.new.out.tokens ++ member_tokens (codes "load") (number_data n)) c.from.ensures in
    on_ok_weaker c.write_code-3.result (λ last.
    let place = last ∙ ap (λ at. c.write_text.new.out.tokens ++ member_tokens (codes "place") (string at)) c.place.ensures in
    let whole =
    six-written _ _ _ _ _ _ _ _ _ _ _ _ _ (c.in_ok-begin_line.ensures {u = tt}).tokens (c.in_ok-write_code.ensures {u = tt}).tokens
    (c.in_ok-write_code-2.ensures {u = tt}).tokens load status place in
    record {
      number = c.write_code.ensures.reads;
      class = c.write_code-2.ensures.reads;
      place = subst (λ at. place_read at ≡ Ok at) c.place.ensures c.write_code-3.ensures.reads;
      tokens = whole;
    }) c.write_code-3.ensures.tokens
