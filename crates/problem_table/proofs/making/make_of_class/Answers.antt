use Rattle.problem_table.proofs.MakingLemmas.{made_next, made_repeated, moment_within, on_ok, row_within}
use Rattle.problem_table.proofs.making.make_of_class.Goals as goal

pub repeat-requires-clause-row : goal.repeat-requires-clause-row
repeat-requires-clause-row c =
    row_within c.args.tables.now c.args.problem.now c.args.k c.args.wagon.now c.requires.wagon c.args.making.now c.requires.made _ (c.is_alike_before.ensures.before c.if-is_alike_before.true)

pub repeat-requires-clause-moment : goal.repeat-requires-clause-moment
repeat-requires-clause-moment c =
    moment_within c.args.tables.now c.args.problem.now c.args.k c.args.wagon.now c.requires.wagon c.args.making.now c.requires.made _ (c.is_alike_before.ensures.before c.if-is_alike_before.true)

pub returns-then-is_alike_before-clause-made : goal.returns-then-is_alike_before-clause-made
returns-then-is_alike_before-clause-made c =
    on_ok c.repeat.result (λ more.
    made_repeated c.args.tables.now c.args.problem.now c.args.k c.args.wagon.now c.requires.wagon c.args.making.now c.requires.made _ c.repeat.new.making (c.is_alike_before.ensures.before c.if-is_alike_before.true)
    (rw (c.wagons.ensures.wagons, c.at.ensures) at (c.is_alike_before.ensures.alike c.if-is_alike_before.true)) more c.repeat.ensures.classes) c.repeat.ensures.row

pub returns-then-is_alike_before-clause-shared : goal.returns-then-is_alike_before-clause-shared
returns-then-is_alike_before-clause-shared c = on_ok c.repeat.result (λ more. more.shared) c.repeat.ensures.row

pub returns-clause-made : goal.returns-clause-made
returns-clause-made c =
    on_ok c.find.result (λ adds.
    made_next c.args.tables.now c.args.problem.now c.args.k c.args.wagon.now c.requires.wagon c.args.making.now c.requires.made c.find.new.making adds
    (rw c.find.ensures.classes c.requires.made.classes)) c.find.ensures.row

pub returns-clause-shared : goal.returns-clause-shared
returns-clause-shared c = on_ok c.find.result (λ adds. adds.more.shared) c.find.ensures.row

pub returns-then-is_empty-clause-made : goal.returns-then-is_empty-clause-made
returns-then-is_empty-clause-made c =
    on_ok c.add_unwanted.result (λ adds.
    made_next c.args.tables.now c.args.problem.now c.args.k c.args.wagon.now c.requires.wagon c.args.making.now c.requires.made c.add_unwanted.new.making adds
    (rw c.add_unwanted.ensures.classes c.requires.made.classes)) c.add_unwanted.ensures.row
