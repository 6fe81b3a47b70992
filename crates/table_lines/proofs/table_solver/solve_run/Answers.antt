use Rattle.std.proofs.Common.{ℕ, subst}
use Rattle.line_engine.specs.Runs.{Failures, Runs, run_over}
use Rattle.table_lines.specs.Solving.{ToTables}
use Rattle.table_lines.proofs.KeptLimit.{run_keeps}
use Rattle.table_lines.proofs.table_solver.solve_run.Goals as goal

pub returns : goal.returns
returns g c =
    let run = λ (state : ℕ). run_over c.args.limit g.R.Source.remaining g.W.Sink.contents (c.args.reader.now, c.args.writer.now, c.args.limit) (c.run_replies.new.reader, c.run_replies.new.writer, state) in
    let failed : Failures = record { reader = g.R.Source.has_failed c.run_replies.new.reader; writer = g.W.Sink.has_failed c.run_replies.new.writer } in
    let kept = run_keeps (run c.run_replies.new.state) failed c.run_replies.result c.run_replies.ensures in
    subst (λ (state : ℕ). Runs ToTables (run state) failed c.run_replies.result) kept c.run_replies.ensures
