use Rattle.std.proofs.Common.{refl}
use Rattle.sessions.proofs.Noted.{noted_lost, noted_one}
use Rattle.sessions.proofs.refused_wagons.RefusedWagons.note.Goals as goal

pub returns-in-Ok : goal.returns-in-Ok
returns-in-Ok c = rw (← c.self.view_is) (noted_one c.args.wagon _ _ refl c.in-Ok.ensures.updates.0)

pub returns-in-Err : goal.returns-in-Err
returns-in-Err c = rw (← c.self.view_is) (noted_lost c.args.wagon _ _ refl c.in-Err.ensures.err)
