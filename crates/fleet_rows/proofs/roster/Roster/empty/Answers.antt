use Rattle.std.proofs.Common.{sym, subst}
use Rattle.fleet_rows.proofs.RosterLemmas.{IsRoster-empty}
use Rattle.fleet_rows.specs.Roster.{IsRoster}
use Rattle.fleet_rows.proofs.roster.Roster.empty.Goals as goal

pub invariant_of-result : goal.invariant_of-result
invariant_of-result c = subst IsRoster (sym c.new.ensures.items) IsRoster-empty
