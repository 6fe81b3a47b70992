use Rattle.std.proofs.Common.{sym, ◌∙◌}
use Rattle.std.proofs.lemmas.Result.{err_from_is_err_and}
use Rattle.line_engine.specs.Outcome.{is_refusal}
use Rattle.line_engine.proofs.Answering.{serves_filled}
use Rattle.line_engine.proofs.run.serve.Goals as goal

pub returns-in_err-write_all-clause-err : goal.returns-in_err-write_all-clause-err
returns-in_err-write_all-clause-err g c =
    let p = err_from_is_err_and c.from_residual.result c.from_residual.ensures.1 in
    let part = c.in_err-write_all.ensures.err in
    rw p.1 (
      c.respond-outcome.new.reply,
      is_refusal c.respond-outcome.result,
      serves_filled g.H.Responder.replies c.args.number c.args.state.now c.args.line.now c.respond-outcome.new.reply (is_refusal c.respond-outcome.result) c.respond-outcome.new.state (sym c.is_blank.ensures ∙ c.if-is_blank.false) c.respond-outcome.ensures,
      (part.0, part.1, sym c.as_slice.ensures ∙ part.2, part.3, part.4),
    )
