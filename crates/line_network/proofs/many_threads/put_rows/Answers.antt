use Rattle.std.proofs.Common.{◌<◌, arith, length, length-set, set}
use Rattle.std.proofs.lemmas.List.Elements.{All-rest, All-weaker}
use Rattle.line_network.proofs.Sharing.{put_next}
use Rattle.line_network.proofs.many_threads.put_rows.Goals as goal

pub loop-origin-preserved : goal.loop-origin-preserved
loop-origin-preserved c =
    let r = c.in-Some.field-0 in let rows = c.loop-origin.rows in
    record {
      rest = put_next rows r _ _ _ c.in-Some.ensures.steps.0 c.loop-origin.invariant.rest;
      known = All-weaker (λ x. x.origin < length rows) (λ x. x.origin < length (set rows r.origin r.row)) (λ x l. omega (arith, length-set rows r.origin r.row)) _ (All-rest (λ x. x.origin < length rows) r _ _ c.in-Some.ensures.steps.0 c.loop-origin.invariant.known);
    }
