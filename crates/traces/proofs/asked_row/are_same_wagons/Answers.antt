use Rattle.std.specs.Cmp.Lexicographic.{bytes_decides}
use Rattle.std.proofs.lemmas.Slice.Eq.{slice_eq-Decides}
use Rattle.traces.proofs.asked_row.are_same_wagons.Goals as goal

pub returns : goal.returns
returns c = slice_eq-Decides bytes_decides c.args.one.now c.args.other.now _ c.eq.ensures
