use Rattle.std.proofs.Common.{◌∙◌}
use Rattle.operating_db.proofs.States.{new_state}
use Rattle.operating_db.proofs.office_state.OfficeState.new.Goals as goal

pub invariant_of-result : goal.invariant_of-result
invariant_of-result c = new_state c.args.roster.now _ _ c.args.networks c.rows.ensures.roster (c.in_ok-from_rows.ensures ∙ c.rows.ensures.rows) c.new.ensures c.requires.from_one c.requires.few
