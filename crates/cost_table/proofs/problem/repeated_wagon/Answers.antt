use Rattle.std.proofs.Common.{refl, sym, ◌∙◌, arith}
use Rattle.wagons_and_orders.specs.declared.free_wagon.FreeWagon.{FreeWagon}
use Rattle.cost_table.proofs.ProblemLemmas.{named_before, named_later}
use Rattle.cost_table.proofs.problem.repeated_wagon.Goals as goal

pub returns-then-is_wagon_among : goal.returns-then-is_wagon_among
returns-then-is_wagon_among c =
    sym (named_before (λ (w : FreeWagon). w.number) c.args.wagons.now c.loop-k.k c.index-wagons-k.result c.index-wagons-k.result.number (omega arith) c.index-wagons-k.is refl (sym c.is_wagon_among.ensures ∙ c.if-is_wagon_among.true)) ∙ c.loop-k.invariant

pub loop-k-preserved : goal.loop-k-preserved
loop-k-preserved c =
    named_later (λ (w : FreeWagon). w.number) c.args.wagons.now c.loop-k.k c.index-wagons-k.result c.index-wagons-k.result.number (omega arith) c.index-wagons-k.is refl (sym c.is_wagon_among.ensures ∙ c.if-is_wagon_among.false) ∙ c.loop-k.invariant
