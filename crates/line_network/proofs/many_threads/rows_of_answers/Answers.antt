use Rattle.std.proofs.Common.{◌≡◌, ◌∙◌, arith, rules, length}
use Rattle.line_network.specs.inner.Shares.{put_rows}
use Rattle.line_network.proofs.Searching.{whole_slice}
use Rattle.line_network.proofs.Sharing.{IsGathered-more, IsGathered-end, next_known, length-put_rows}
use Rattle.line_network.proofs.many_threads.rows_of_answers.Goals as goal

pub put_rows-requires : goal.put_rows-requires
put_rows-requires c =
    let h = rw (c.in-Some.ensures.steps.0, c.in-Ok.is) at c.loop-answer.invariant in
    rw c.deref_mut.ensures.value (next_known _ _ _ _ _ _ h)

pub loop-answer-preserved : goal.loop-answer-preserved
loop-answer-preserved c =
    let rows = c.loop-answer.rows in let share = c.in-Ok.share in
    let h = rw (c.in-Some.ensures.steps.0, c.in-Ok.is) at c.loop-answer.invariant in
    let full : length rows.items ≡ rows.len = omega (arith, rows.ok.0) in
    rw (c.put_rows.ensures, c.deref_mut.ensures.value) (rw (whole_slice rows.len rows.items (put_rows rows.items share.items) full (length-put_rows rows.items share.items ∙ full)) (IsGathered-more _ _ _ _ _ _ h))

pub returns : goal.returns
returns c = IsGathered-end _ _ _ _ _ (search rules) c.requires.some c.loop-answer.invariant
