use Rattle.wagons_program.proofs.FirstLineLemmas.{are_the_first}
use Rattle.wagons_program.proofs.laws.the_first_lines_are_taken.Goals as goal

pub returns : goal.returns
returns c = are_the_first
