use Rattle.std.proofs.Common.{sym, ◌∙◌, arith}
use Rattle.cost_table.proofs.NameLemmas.{repeated_here, repeated_later}
use Rattle.cost_table.proofs.names.repeated.Goals as goal

pub returns-then-contains : goal.returns-then-contains
returns-then-contains g c =
    sym (repeated_here g.T.PartialEq.eq c.args.values.now c.loop-k.k c.index-values-k.result (omega arith) c.index-values-k.is (sym c.contains.ensures.value ∙ c.if-contains.true)) ∙ c.loop-k.invariant

pub loop-k-preserved : goal.loop-k-preserved
loop-k-preserved g c =
    repeated_later g.T.PartialEq.eq c.args.values.now c.loop-k.k c.index-values-k.result (omega arith) c.index-values-k.is (sym c.contains.ensures.value ∙ c.if-contains.false) ∙ c.loop-k.invariant
