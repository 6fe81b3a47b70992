use Rattle.operating_db.proofs.Problems.{problem_made}
use Rattle.operating_db.proofs.office_state.OfficeState.problem.Goals as goal

pub of_distinct-requires : goal.of_distinct-requires
of_distinct-requires c =
    rw (c.in_ok-wagons.ensures.ok, c.in_ok-orders.ensures.ok, c.in_ok-free.ensures, c.in_ok-waiting.ensures, c.as_slice.ensures.rows) (problem_made c.args.at c.self.inside.wagons c.self.inside.orders c.as_slice.ensures.valid c.for_the_prover.ensures)
