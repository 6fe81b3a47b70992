use Rattle.std.proofs.Common.{◌<◌}
use Rattle.move_messages.specs.Classes.{max_classes}
use Rattle.move_messages.specs.inner.PaddedClasses.{length-take-used}
use Rattle.move_messages.proofs.ClassLists.{IsPadded-more}
use Rattle.move_messages.proofs.classes.Classes.push.Goals as goal

pub invariant_of-self : goal.invariant_of-self
invariant_of-self c =
    let many = length-take-used c.self.inside.items c.self.inside.used c.self.invariant in
    let room : c.self.inside.used < max_classes = rw (← many, c.self.view_is) c.requires in
    rw c.from.ensures (IsPadded-more c.self.inside.items c.self.inside.used c.args.class c.self.invariant room)
