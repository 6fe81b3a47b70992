use Rattle.std.proofs.Common.{◌∙◌}
use Rattle.checkpoint.proofs.Offices.{closed_state}
use Rattle.checkpoint.proofs.reading.close.Goals as goal

pub from_rows-requires-in-Some : goal.from_rows-requires-in-Some
from_rows-requires-in-Some c =
    closed_state c.args.networks c.in-Some.network c.args.parts _ c.in_ok-wagons-in-Some.wagons c.requires.parts c.parts.view_is c.in-Some.is c.if-ended.true (c.in_ok-wagons-in-Some.ensures ∙ c.deref.ensures.value) c.requires.few
