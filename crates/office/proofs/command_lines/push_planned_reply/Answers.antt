use Rattle.std.proofs.Common.{◌≡◌, ◌++◌, ◌∷◌, [], ℕ, List, length, refl, ap, ◌∙◌, string_bytes}
use Rattle.std.proofs.lemmas.Result.{on_ok_weaker}
use Rattle.cost_table.specs.Plan.{cost_of}
use Rattle.dispatch_sheet.specs.PlanText.{plan_text_of}
use Rattle.reply_texts.specs.ReplyTexts.{planned_text}
use Rattle.office.specs.CommandReplies.{IsPlanned, planned_reply}
use Rattle.dispatch_sheet.proofs.InRange.{plan_in_range}
use Rattle.office.proofs.Plans.{added_parts}
use Rattle.office.proofs.command_lines.push_planned_reply.Goals as goal

pub certificate_line-requires : goal.certificate_line-requires
certificate_line-requires c = plan_in_range c.args.snap.now.problem c.args.cells.now c.args.plan.now c.requires.fits c.requires.certificate.plan.allowed

pub returns : goal.returns
returns c =
    let snap = c.args.snap.now in
    let head = planned_reply snap (cost_of c.args.cells.now c.args.plan.now) in
    let plan_lines = plan_text_of snap.problem c.args.cells.now c.args.plan.now in
    let line = string_bytes c.in_ok-certificate_line.field-0 in
    let is_head : planned_text c.version.result (length c.wagons-wagons.result.now) (length c.orders-orders.result.now) c.certified_cost.result ≡ head =
    rw (c.version.ensures.value, c.wagons-wagons.ensures.wagons, c.orders-orders.ensures.orders, c.problem-problem.ensures, c.certified_cost.ensures, c.pairs.ensures.pairs) refl in
    let planned : IsPlanned snap c.args.cells.now (head ++ plan_lines ++ line ++ 10 ∷ []) = record {
      pairs = c.args.plan.now;
      u = c.args.prices.now.u.items;
      v = c.args.prices.now.v.items;
      kept = c.pairs.ensures.kept;
      optimal = c.requires.optimal;
      certificate = c.requires.certificate;
      line = line;
      is_line = c.in_ok-certificate_line.ensures.text;
      reads = c.in_ok-certificate_line.ensures.reads;
      text = refl;
    } in
    on_ok_weaker c.push_bytes.result
    (λ added. (
      head ++ plan_lines ++ line ++ 10 ∷ [],
      added_parts c.args.reply.now head plan_lines line _ _ _ _ (c.in_ok-push_planned.ensures ∙ ap (λ (xs : List ℕ). c.args.reply.now ++ xs) is_head)
          (c.in_ok-push_str.ensures.ok ∙ ap (λ (xs : List ℕ). c.push_planned.new.reply ++ xs) (c.deref.ensures ∙ c.in_ok-certified_plan_text.ensures))
          (c.in_ok-push_str-2.ensures.ok ∙ ap (λ (xs : List ℕ). c.push_str.new.self ++ xs) c.deref-2.ensures) added,
      planned,
    ))
    c.push_bytes.ensures.ok
