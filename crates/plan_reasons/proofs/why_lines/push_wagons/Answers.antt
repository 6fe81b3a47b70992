use Rattle.std.proofs.Common.{◌∙◌, ◌+◌, ℕ, take, get_or, refl, sym, subst, string_bytes, arith}
use Rattle.cost_table.specs.Plan.{AllAllowed}
use Rattle.reply_texts.proofs.Lines.{Adds-line, Adds-lines-along, taken_more}
use Rattle.plan_bounds.proofs.NewPairs.{allowed_at}
use Rattle.plan_reasons.specs.WhyText.{IsWagonLine}
use Rattle.plan_reasons.proofs.why_lines.push_wagons.Goals as goal

pub push_wagon_line-requires : goal.push_wagon_line-requires
push_wagon_line-requires c =
    let cells = c.args.planned.now.priced.table in
    let allowed = subst (AllAllowed cells) (sym (c.pairs-pair-items.ensures.pairs ∙ c.plan.ensures.value)) c.plan.ensures.certified.plan.allowed in
    allowed_at cells c.pairs-pair-items.result.now c.loop-pair.pair-index (0, 0) allowed (omega arith)

pub loop-pair-preserved : goal.loop-pair-preserved
loop-pair-preserved c =
    let is_line = IsWagonLine c.args.style c.args.numbers c.args.planned.now.network c.args.planned.now.problem c.args.planned.now.priced in
    let pairs = c.pairs-pair-items.result.now in
    let i = c.loop-pair.pair-index in
    let pair : ℕ × ℕ = get_or pairs i (0, 0) in
    Adds-lines-along is_line _ (take (i + 1) pairs) _ _ (sym (taken_more pairs i pair (0, 0) (omega arith) refl)) (Adds-line is_line (take i pairs) pair (string_bytes c.args.text.now) (string_bytes c.loop-pair.text) _ c.loop-pair.invariant (c.in_ok-push_wagon_line.ensures {u = tt}))
