use Rattle.std.proofs.Common.{◌≡◌, ◌++◌, codes, Ok, ap, subst, ◌∙◌}
use Rattle.std.proofs.lemmas.Result.{on_ok_weaker}
use Rattle.serde_json.specs.Data.{string}
use Rattle.rail_codes.specs.OrderId.{order_id_of}
use Rattle.rail_codes.specs.Place.{place_read}
use Rattle.move_messages.specs.Classes.{IsClassList}
use Rattle.move_messages.specs.OrderLimits.{IsOrder}
use Rattle.line_fields.specs.Written.{list_data, number_data}
use Rattle.line_fields.specs.WrittenTokens.{member_tokens}
use Rattle.checkpoint.specs.inner.Readable.{AreClassesRead}
use Rattle.checkpoint.proofs.LineTokens.{five-written}
use Rattle.checkpoint.proofs.order_tokens.write_front.Goals as goal

pub returns-clause-tokens : goal.returns-clause-tokens
returns-clause-tokens c =
    let is = c.text-order.ensures in
    let classes_are = c.as_slice.ensures.value ∙ c.classes.ensures ∙ ap (λ order. order.classes) is in
    let id_is = c.id.ensures ∙ ap (λ order. order.id) is in
    let place_is = c.place.ensures ∙ ap (λ order. order.place) is in
    let load_is = c.from.ensures ∙ c.load.ensures.value ∙ ap (λ order. order.load) is in
    let id = (c.in_ok-write_code.ensures {u = tt}).tokens ∙ ap (λ text. c.begin_line.new.out.tokens ++ member_tokens (codes "order") (string text)) id_is in
    let place = (c.in_ok-write_code-2.ensures {u = tt}).tokens ∙ ap (λ text. c.write_code.new.out.tokens ++ member_tokens (codes "place") (string text)) place_is in
    let classes = (c.in_ok-write_codes.ensures {u = tt}).tokens ∙ ap (λ texts. c.write_code-2.new.out.tokens ++ member_tokens (codes "classes") (list_data string texts)) classes_are in
    on_ok_weaker c.write_number.result (λ last.
    let load = last ∙ ap (λ n. c.write_codes.new.out.tokens ++ member_tokens (codes "load") (number_data n)) load_is in
    let whole = five-written _ _ _ _ _ _ _ _ _ _ _ (c.in_ok-begin_line.ensures {u = tt}).tokens id place classes load in
    record {
      id = subst (λ text. order_id_of text ≡ Ok text) id_is c.write_code.ensures.reads;
      place = subst (λ text. place_read text ≡ Ok text) place_is c.write_code-2.ensures.reads;
      classes = subst AreClassesRead classes_are (c.in_ok-write_codes.ensures {u = tt}).read;
      class_count = subst IsClassList classes_are c.as_slice.ensures.valid;
      limits = subst IsOrder is c.load.ensures.limits;
      tokens = whole;
    }) c.write_number.ensures.tokens
