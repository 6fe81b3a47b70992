use Rattle.std.proofs.Common.{◌∙◌, ◌++◌, ◌∷◌, [], get_or, ap, sym, arith}
use Rattle.std.proofs.lemmas.List.{get_or_default}
use Rattle.operating_db.specs.inner.Walks.{wanted_at}
use Rattle.operating_db.proofs.Picked.{passed, picked}
use Rattle.operating_db.proofs.lists.wanted_among.Goals as goal
use Rattle.operating_db.proofs.lists.wanted_among.Goals.{in-Some, in_default}

pub loop-index-preserved : goal.loop-index-preserved
loop-index-preserved c =
    let rows = c.args.rows.now in
    let indices = c.args.indices.now in
    let k = c.loop-index.index-index in
    let index = get_or indices k 0 in
    let is = get_or_default indices k 0 index c.loop-index-test.true in
    elim c.match-wanted_at.branch [
      | in-Some w ↦ record {
        waiting = rw w.wanted-is (w.push_reserved.ensures.items ∙ (ap (λ items. items ++ w.in-Some.one ∷ []) c.loop-index.invariant.waiting ∙ sym (picked (wanted_at rows) indices k index c.loop-index-test.true is w.in-Some.one (sym c.wanted_at.ensures ∙ w.in-Some.is))));
        room = rw w.wanted-is (omega (arith, w.push_reserved.ensures.len, w.push_reserved.ensures.capacity, c.loop-index.invariant.room));
      }
      | in_default w ↦ record {
        waiting = rw w.wanted-is (c.loop-index.invariant.waiting ∙ sym (passed (wanted_at rows) indices k index c.loop-index-test.true is (sym c.wanted_at.ensures ∙ w.in_default.is)));
        room = rw w.wanted-is (omega (arith, c.loop-index.invariant.room));
      }
    ]
