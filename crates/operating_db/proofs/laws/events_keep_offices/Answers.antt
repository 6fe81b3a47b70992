use Rattle.operating_db.proofs.Events.{events_keep, rosters_begin}
use Rattle.operating_db.proofs.laws.events_keep_offices.Goals as goal

pub returns : goal.returns
returns c = record { rosters = rosters_begin; events = events_keep }
