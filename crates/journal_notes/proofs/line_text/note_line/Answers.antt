use Rattle.std.proofs.Common.{codes, refl, ap, ◌∙◌}
use Rattle.std.proofs.lemmas.Result.{IfOk-weaker}
use Rattle.journal_notes.specs.NoteLine.{ended_members, number_members, object_text, order_members, pair_members, text_members}
use Rattle.journal_notes.proofs.line_text.note_line.Goals as goal

pub returns-in-Promised : goal.returns-in-Promised
returns-in-Promised c =
    rw c.in-Promised.is (IfOk-weaker c.pair_line.result _ _ (λ text is. record {
      members = pair_members c.in-Promised.pair;
      of_note = refl;
      whole = is;
    }) c.pair_line.ensures)

pub returns-in-Complete : goal.returns-in-Complete
returns-in-Complete c =
    rw c.in-Complete.is (IfOk-weaker c.named_line.result _ _ (λ text is. record {
      members = order_members c.in-Complete.named.order;
      of_note = refl;
      whole = is;
    }) c.named_line.ensures)

pub returns-in-Delivered : goal.returns-in-Delivered
returns-in-Delivered c =
    rw c.in-Delivered.is (IfOk-weaker c.pair_line-in-Delivered.result _ _ (λ text is. record {
      members = pair_members c.in-Delivered.pair;
      of_note = refl;
      whole = is;
    }) c.pair_line-in-Delivered.ensures)

pub returns-in-Filled : goal.returns-in-Filled
returns-in-Filled c =
    rw c.in-Filled.is (IfOk-weaker c.number_line.result _ _ (λ text is. record {
      members = number_members c.in-Filled.filled.order (codes "late") c.in-Filled.filled.late;
      of_note = refl;
      whole = is;
    }) c.number_line.ensures)

pub returns-in-Ended : goal.returns-in-Ended
returns-in-Ended c =
    rw c.in-Ended.is (IfOk-weaker c.ended_line.result _ _ (λ text is. record {
      members = ended_members c.in-Ended.ended;
      of_note = refl;
      whole = is;
    }) c.ended_line.ensures)

pub returns-in-Short : goal.returns-in-Short
returns-in-Short c =
    rw c.in-Short.is (IfOk-weaker c.number_line-in-Short.result _ _ (λ text is. record {
      members = number_members c.in-Short.short.order (codes "missing") c.in-Short.short.missing;
      of_note = refl;
      whole = is ∙ ap (λ n. object_text c.args.file c.args.line (codes "short") (number_members c.in-Short.short.order (codes "missing") n)) c.from-missing.ensures;
    }) c.number_line-in-Short.ensures)

pub returns-in-UnknownPlace : goal.returns-in-UnknownPlace
returns-in-UnknownPlace c =
    rw c.in-UnknownPlace.is (IfOk-weaker c.text_line.result _ _ (λ text is. record {
      members = text_members c.in-UnknownPlace.order.order (codes "place") c.in-UnknownPlace.order.place;
      of_note = refl;
      whole = is ∙ ap (λ t. object_text c.args.file c.args.line (codes "place") (text_members c.in-UnknownPlace.order.order (codes "place") t)) c.code_str.ensures.value;
    }) c.text_line.ensures)

pub returns-in-NoClass : goal.returns-in-NoClass
returns-in-NoClass c =
    rw c.in-NoClass.is (IfOk-weaker c.named_line-in-NoClass.result _ _ (λ text is. record {
      members = order_members c.in-NoClass.named.order;
      of_note = refl;
      whole = is;
    }) c.named_line-in-NoClass.ensures)

pub returns-in-NoCarrier : goal.returns-in-NoCarrier
returns-in-NoCarrier c =
    rw c.in-NoCarrier.is (IfOk-weaker c.number_line-in-NoCarrier.result _ _ (λ text is. record {
      members = number_members c.in-NoCarrier.order.order (codes "load") c.in-NoCarrier.order.load;
      of_note = refl;
      whole = is ∙ ap (λ n. object_text c.args.file c.args.line (codes "load") (number_members c.in-NoCarrier.order.order (codes "load") n)) c.from-load.ensures;
    }) c.number_line-in-NoCarrier.ensures)
