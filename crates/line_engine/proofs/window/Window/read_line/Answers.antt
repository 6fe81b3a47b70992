use Rattle.std.proofs.Common.{◌++◌, false, arith, rules}
use Rattle.std.proofs.lemmas.Result.{err_from_is_err_and}
use Rattle.line_engine.specs.inner.Cutting.{Moves}
use Rattle.line_engine.proofs.Reading.{reads_on, is_overlong}
use Rattle.line_engine.proofs.window.Window.read_line.Goals as goal

pub returns-in_err-cut-clause-cut : goal.returns-in_err-cut-clause-cut
returns-in_err-cut-clause-cut g c =
    let p = err_from_is_err_and c.from_residual.result c.from_residual.ensures.1 in
    let stop = c.in_err-cut.ensures.err in
    let so = c.loop-self.invariant in
    rw (p.1, p.2, stop.0) (so.0, so.1.consumed, is_overlong _ _ _ so.0 _ _ stop.1 stop.2 c.args.line.now.most so.1 stop.3 stop.4 (omega (arith, stop.5, so.3)))

pub loop-self-preserved : goal.loop-self-preserved
loop-self-preserved g c =
    let so = c.loop-self.invariant in
    let moved : Moves c.loop-self.self c.cut.new.self c.loop-self.line.bytes c.cut.new.line.bytes false = rw c.if-branch.false at c.in_ok-cut.ensures.ok in
    let taken = c.fill.ensures.taken in
    (so.0 ++ taken.0, reads_on _ _ _ _ so.0 _ _ _ _ taken.0 _ so.1 moved taken.2 taken.1, search rules, search rules, search rules)
