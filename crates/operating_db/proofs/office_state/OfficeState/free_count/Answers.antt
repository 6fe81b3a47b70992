use Rattle.std.proofs.Common.{◌∙◌}
use Rattle.operating_db.proofs.FreeCounts.{free_counted}
use Rattle.operating_db.proofs.office_state.OfficeState.free_count.Goals as goal

pub returns : goal.returns
returns c = rw (← c.self.view_is) (c.free_count.ensures ∙ free_counted c.args.class c.args.place c.self.inside.wagons)
