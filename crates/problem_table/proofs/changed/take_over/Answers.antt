use Rattle.std.proofs.Common.{rules}
use Rattle.problem_table.proofs.changed.take_over.Goals as goal

pub returns-clause-row : goal.returns-clause-row
returns-clause-row c = record { shared = search rules; placed = search rules; rows = search rules; moments = search rules }
