use Rattle.std.proofs.Common.{◌∙◌}
use Rattle.rail_codes.proofs.ShortTexts.{order_of_fields}
use Rattle.rail_codes.proofs.short_text.ShortTextOrd.cmp.Goals as goal

pub returns : goal.returns
returns g c =
    rw (← c.self.view_is, ← c.other.view_is) (c.order_of.ensures ∙ order_of_fields g.row.ROOM c.self.inside.bytes c.other.inside.bytes c.self.invariant c.other.invariant)
