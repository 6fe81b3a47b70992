use Rattle.std.proofs.Common.{rules, ◌≡◌, ◌∙◌, ◌++◌, ◌∷◌, [], ap, length, arith}
use Rattle.std.specs.BTreeMap.{get}
use Rattle.std.specs.Cmp.Lexicographic.{slice_cmp}
use Rattle.std.specs.Ordering.{nat_cmp}
use Rattle.fleet_rows.specs.inner.Indexed.{noted}
use Rattle.fleet_rows.proofs.Orders.{indexed_push}
use Rattle.fleet_rows.proofs.Waiting.{stored_push}
use Rattle.fleet_rows.proofs.order_rows.OrderRows.push_row.Goals as goal

pub invariant_of-self-2 : goal.invariant_of-self-2
invariant_of-self-2 c =
    let pushed : c.push.new.self.items ≡ c.self.inside.rows.items ++ c.args.row ∷ [] = search rules in
    let new = rw (← c.self.view_is) at c.requires.new in
    let last : c.len-index.result ≡ length c.self.inside.rows.items = search rules in
    let indexed =
    indexed_push c.self.inside.rows.items (get (slice_cmp nat_cmp) c.self.inside.indexes) (get (slice_cmp nat_cmp) c.insert.new.self) c.self.inside.open_wagons c.args.row c.self.invariant.rows_kept new c.is_waiting.ensures.valid (rw (← c.self.view_is, ← c.self.invariant.rows_kept.counted) at c.requires.few_open)
    (λ q. rw (c.id.ensures, c.text.ensures, last) at (c.in_ok-insert.ensures.updates.0 q)) in
    rw (pushed, c.wanted_open.ensures) (stored_push c.self.inside.rows.items (get (slice_cmp nat_cmp) c.self.inside.indexes) c.self.inside.open_wagons _ c.self.inside.waiting.items _ _ _ c.len-index.result c.args.row c.is_waiting.result c.self.invariant (get (slice_cmp nat_cmp) c.insert.new.self) indexed
    c.is_waiting.ensures.value last (c.note.ensures.items ∙ ap (noted c.len-index.result c.is_waiting.result) c.reserve-2.ensures.items) (omega (arith, c.note.ensures.room, c.in_ok-reserve-2.ensures.ok)))
