use Rattle.std.proofs.Common.{ap, inl}
use Rattle.office.specs.Reviews.{Reviews}
use Rattle.wagons_program.proofs.Outcomes.{are_stopped}
use Rattle.wagons_program.proofs.review.review_lines.Goals as goal

-- the run stopped
pub returns-clause-err : goal.returns-clause-err
returns-clause-err g c =
    inl
    (are_stopped Reviews _ _ _ (ap g.I.Read.remaining c.new-reader.ensures.device) _ _ c.in-Err.ensures.err)
