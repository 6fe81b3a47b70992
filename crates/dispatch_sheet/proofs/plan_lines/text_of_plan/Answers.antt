use Rattle.std.proofs.Common.{◌≡◌, ◌++◌, ℕ, sym, ap, ap₂, ◌∙◌, subst, length, arith}
use Rattle.std.specs.Prelude.{◌==◌}
use Rattle.std.proofs.lemmas.List.Elements.{All-filter}
use Rattle.std.proofs.lemmas.Option.{IfSome_then}
use Rattle.cost_table.specs.Plan.{AllAllowed}
use Rattle.cost_table.specs.Table.{order_count}
use Rattle.price_checker.specs.Tight.{AreTight, IsTight}
use Rattle.dispatch_sheet.specs.PlanText.{order_lines}
use Rattle.dispatch_sheet.proofs.PlanLines.{flat_map-range_more}
use Rattle.dispatch_sheet.proofs.PlanPairs.{length-mine, lines-mine, pairs_at, pairs_from_0, parted, AllAllowed-at}
use Rattle.dispatch_sheet.proofs.plan_lines.text_of_plan.Goals as goal

pub loop-j-init : goal.loop-j-init
loop-j-init c = (c.pairs-rest.ensures.pairs ∙ pairs_from_0 c.args.plan.now, c.new-text.ensures.bytes)

mine-are : (c : goal.After-text-1) → c.split_at.result.0.now ≡ pairs_at c.loop-j.j c.args.plan.now
mine-are c =
    let parts = c.split_at.ensures in
    (parted c.loop-j.j c.pairs_of_order.result c.args.plan.now c.loop-j.rest.now c.split_at.result.0.now c.split_at.result.1.now c.pairs-rest.ensures.kept c.loop-j.invariant.0 c.pairs_of_order.ensures.value parts.front parts.back).0

orders-are : (c : goal.After-text-1) → length c.orders-j-end.result.now ≡ order_count c.args.cells.now
orders-are c =
    ap length c.orders-j-end.ensures.orders ∙ ap (λ problem. length problem.orders) c.problem-problem.ensures ∙ sym c.requires.fits.orders

pub push_lines_of_order-requires-clause-allowed : goal.push_lines_of_order-requires-clause-allowed
push_lines_of_order-requires-clause-allowed c =
    subst (AllAllowed c.args.cells.now) (sym (mine-are c)) (AllAllowed-at c.args.cells.now c.loop-j.j c.args.plan.now c.requires.plan.allowed)

pub push_lines_of_order-requires-clause-tight : goal.push_lines_of_order-requires-clause-tight
push_lines_of_order-requires-clause-tight c =
    let is_of = λ (p : ℕ × ℕ). p.1 == c.loop-j.j in
    IfSome_then c.args.prices c.requires.tight
    (λ prices all. subst (AreTight c.args.cells.now prices.now.u.items prices.now.v.items) (sym (mine-are c)) (All-filter is_of (IsTight c.args.cells.now prices.now.u.items prices.now.v.items) c.args.plan.now all))

pub push_lines_of_order-requires-clause-within : goal.push_lines_of_order-requires-clause-within
push_lines_of_order-requires-clause-within c =
    omega (arith, length-mine c.loop-j.j c.args.plan.now c.split_at.result.0.now (mine-are c), c.requires.plan.within c.loop-j.j (omega (arith, orders-are c, c.loop-j-test.true)))

pub loop-j-preserved : goal.loop-j-preserved
loop-j-preserved c =
    let plan = c.args.plan.now in
    let j = c.loop-j.j in
    let mine = c.split_at.result.0.now in
    let parts = c.split_at.ensures in
    let now = parted j c.pairs_of_order.result plan c.loop-j.rest.now mine c.split_at.result.1.now c.pairs-rest.ensures.kept c.loop-j.invariant.0 c.pairs_of_order.ensures.value parts.front parts.back in (
      now.1,
      c.in_ok-push_lines_of_order.ensures {u = tt} ∙ ap₂ (λ earlier own. earlier ++ own) c.loop-j.invariant.1 (lines-mine c.problem-problem.result.now c.args.cells.now j plan mine now.0)
          ∙ sym (flat_map-range_more (order_lines c.problem-problem.result.now c.args.cells.now plan) j),
    )
