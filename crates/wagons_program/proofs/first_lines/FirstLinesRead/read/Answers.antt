use Rattle.std.proofs.Common.{arith}
use Rattle.wagons_program.proofs.FirstLineLemmas.{front_read, nothing_read}
use Rattle.wagons_program.proofs.first_lines.FirstLinesRead.read.Goals as goal

pub returns-then-self-eq0-clause-bytes : goal.returns-then-self-eq0-clause-bytes
returns-then-self-eq0-clause-bytes g c = nothing_read _ _ _ c.if-self-eq0.true

pub returns-clause-bytes : goal.returns-clause-bytes
returns-clause-bytes g c =
    let read = c.in_ok-count.ensures {u = tt} in
    front_read _ _ c.in_ok-count.count _ _ _ c.read.new.buf read.bytes read.bound.0 (omega arith) c.front_of-front.ensures.within c.front_of-front.ensures.some
    c.front_of-front.ensures.first
