use Rattle.std.proofs.Common.{rules, sym, ◌∙◌, arith}
use Rattle.wagons_and_orders.specs.Wanted.{WantedOrder}
use Rattle.cost_table.proofs.ProblemLemmas.{named_before, named_later}
use Rattle.cost_table.proofs.problem.repeated_order.Goals as goal

pub returns-then-is_order_among : goal.returns-then-is_order_among
returns-then-is_order_among c =
    sym (named_before (λ (w : WantedOrder). w.order.id) c.args.orders.now c.loop-k.k c.index-orders-k.result c.id-id.result (omega arith) c.index-orders-k.is (search rules) (sym c.is_order_among.ensures ∙ c.if-is_order_among.true)) ∙ c.loop-k.invariant

pub loop-k-preserved : goal.loop-k-preserved
loop-k-preserved c =
    named_later (λ (w : WantedOrder). w.order.id) c.args.orders.now c.loop-k.k c.index-orders-k.result c.id-id.result (omega arith) c.index-orders-k.is (search rules) (sym c.is_order_among.ensures ∙ c.if-is_order_among.false) ∙ c.loop-k.invariant
