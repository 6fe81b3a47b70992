use Rattle.std.proofs.Common.{◌≡◌, vec_len}
use Rattle.line_network.specs.inner.Starts.{AreStarts}
use Rattle.line_network.proofs.lines_by_origin.starts_of.Given as goal

abbrev pub invariant-loop-place : goal.invariant-loop-place
invariant-loop-place l = record { count : vec_len l.starts ≡ l.place-counter; starts : AreStarts l.lines l.starts.items }
