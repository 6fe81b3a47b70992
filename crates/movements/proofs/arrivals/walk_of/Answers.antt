use Rattle.std.proofs.Common.{ℕ, List, subst}
use Rattle.line_network.specs.DistanceAnswers.{HasNoWalk}
use Rattle.movements.proofs.arrivals.walk_of.Goals as goal

pub returns-in-None : goal.returns-in-None
returns-in-None c =
    subst (λ (place : List ℕ). HasNoWalk c.args.tables.now place c.args.to) c.place.ensures c.in-None.ensures.none
