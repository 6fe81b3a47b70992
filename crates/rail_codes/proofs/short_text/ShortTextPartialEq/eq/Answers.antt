use Rattle.std.proofs.Common.{sym}
use Rattle.std.specs.Cmp.Lexicographic.{texts_ties}
use Rattle.rail_codes.proofs.short_text.ShortTextPartialEq.eq.Goals as goal

pub returns : goal.returns
returns g c = rw (c.is_eq.ensures, c.cmp.ensures) (sym (texts_ties c.args.self.now c.args.other.now))
