use Rattle.std.proofs.Common.{◌≡◌, ◌<◌, length}
use Rattle.std.specs.List.{All}
use Rattle.std.specs.Vec.Iter.{into_iter_items}
use Rattle.line_network.specs.inner.Shares.{put_rows}
use Rattle.line_network.proofs.many_threads.put_rows.Given as goal

abbrev pub invariant-loop-origin : goal.invariant-loop-origin
invariant-loop-origin l = record {
  rest : put_rows l.rows (into_iter_items l.origin-iterator) ≡ put_rows l.fn.rows l.fn.share.items;
  known : All (λ r. r.origin < length l.rows) (into_iter_items l.origin-iterator);
}
