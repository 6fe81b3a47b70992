use Rattle.move_messages.proofs.ClassLists.{padded-written}
use Rattle.move_messages.proofs.classes.padded.Goals as goal

pub returns : goal.returns
returns c = rw c.copy_from_slice.ensures.after (padded-written c.args.classes.now c.index-classes-0.result c.requires.0 c.index-classes-0.is)
