use Rattle.std.proofs.Common.{◌∙◌, sym}
use Rattle.operating_db.proofs.FleetChange.{same_by_lookups}
use Rattle.operating_db.proofs.fleet_change.changed_fleet_is_unique.Goals as goal

pub returns : goal.returns
returns c row_of rows other h g = same_by_lookups rows other h.ascending g.ascending (λ number. h.each number ∙ sym (g.each number))
