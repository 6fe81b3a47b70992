use Rattle.problem_table.proofs.MakingLemmas.{made_next, made_repeated, on_ok}
use Rattle.problem_table.proofs.changed.take_along.Goals as goal

pub returns-then-is_alike_before-clause-made : goal.returns-then-is_alike_before-clause-made
returns-then-is_alike_before-clause-made c =
    on_ok c.repeat.result (λ more.
    made_repeated c.args.tables.now c.args.problem.now c.args.k c.args.wagon.now c.requires.wagon c.args.making.now c.requires.made _ c.repeat.new.making (c.is_alike_before.ensures.before c.if-is_alike_before.true)
    (rw (c.wagons.ensures.wagons, c.at.ensures) at (c.is_alike_before.ensures.alike c.if-is_alike_before.true)) more c.repeat.ensures.classes) c.repeat.ensures.row

pub returns-clause-made : goal.returns-clause-made
returns-clause-made c =
    on_ok c.move_row.result (λ adds.
    made_next c.args.tables.now c.args.problem.now c.args.k c.args.wagon.now c.requires.wagon c.args.making.now c.requires.made c.move_row.new.making adds
    (rw c.move_row.ensures.classes c.requires.made.classes)) c.move_row.ensures.row
