use Rattle.std.proofs.Common.{◌≡◌, ◌+◌, ◌-◌, ◌<◌, ℕ, length, get_or, sym, ◌∙◌, ap, arith, min, subst}
use Rattle.std.specs.Vec.{with_items}
use Rattle.std.proofs.lemmas.List.{with_items_is}
use Rattle.cost_table.specs.Table.{cost_at}
use Rattle.assignment.specs.inner.Costs.{cell_cost}
use Rattle.assignment.specs.inner.Groups.{group_table}
use Rattle.assignment.specs.inner.Passes.{through}
use Rattle.assignment.specs.inner.State.{kept}
use Rattle.assignment.specs.inner.Search.{IsSearch, ahead_of, group_at, settled_at}
use Rattle.assignment.proofs.Grouping.{group_cells, group_count, group_price}
use Rattle.assignment.proofs.GroupLimits.{group_gap, group_limit}
use Rattle.assignment.proofs.Relabel.{IsRelabelled, search_relaxed}
use Rattle.assignment.proofs.Running.{last_read}
use Rattle.assignment.proofs.search.Search.relax_last.Goals as goal

pub relax-requires-clause-no_gap : goal.relax-requires-clause-no_gap
relax-requires-clause-no_gap c = λ g l.
    let f = c.args.self.now in
    let state = c.args.state.now in
    let some = c.requires.some in
    let h = c.requires.search in
    let last = last_read state f _ c.len.result c.index.result.now c.index-2.result.now c.requires.state h some (omega (arith, c.len.ensures, f.orders.ok.0)) c.index.ensures c.index-2.ensures in
    let groups = h.room.ahead in
    let value = ap length c.deref_mut.ensures.value in
    let rows = group_count state.cells.now state.groups.first.items in
    let lg : g < length state.groups.first.items = omega (arith, l, value, groups) in
    let price = last.price_is in
    let cost = c.column.ensures.each g (omega (arith, lg, rows)) in
    let gap = group_gap state g c.index.result.now c.requires.state lg last.within in
    let u = ap (λ x. get_or x g 0) c.deref.ensures.value in
    omega (arith, price, cost, gap, u)

pub relax-requires-clause-limit : goal.relax-requires-clause-limit
relax-requires-clause-limit c = λ g l.
    let state = c.args.state.now in
    let groups = c.requires.search.room.ahead in
    let value = ap length c.deref_mut.ensures.value in
    let rows = group_count state.cells.now state.groups.first.items in
    let lg : g < length state.groups.first.items = omega (arith, l, value, groups) in
    let cost = c.column.ensures.each g (omega (arith, lg, rows)) in
    let most = group_limit state g c.index.result.now c.requires.state lg in
    let a = most.price in
    let b = most.cost in
    let u = ap (λ x. get_or x g 0) c.deref.ensures.value in
    let beyond = c.requires.search.end.beyond in
    let limit = c.requires.search.end.limit c.requires.some in
    omega (arith, cost, a, b, u, beyond, limit)

pub relax-requires-clause-distance : goal.relax-requires-clause-distance
relax-requires-clause-distance c =
    let beyond = c.requires.search.end.beyond in
    let limit = c.requires.search.end.limit c.requires.some in
    omega (arith, beyond, limit)

pub returns-clause-search : goal.returns-clause-search
returns-clause-search c =
    let state = c.args.state.now in
    let s = kept state in
    let f = c.args.self.now in
    let first = state.groups.first.items in
    let of = state.groups.of.items in
    let index = length f.orders.items - 1 in
    let some = c.requires.some in
    let h = c.requires.search in
    let last = last_read state f _ c.len.result c.index.result.now c.index-2.result.now c.requires.state h some (omega (arith, c.len.ensures, f.orders.ok.0)) c.index.ensures c.index-2.ensures in
    let price : c.index-2.result.now ≡ get_or s.v (settled_at f index) 0 = last.price_is ∙ ap (λ x. get_or s.v x 0) last.is in
    let ahead = c.relax.new.ahead in
    let value = ap length c.deref_mut.ensures.value in
    let groups = h.room.ahead in
    let grouped = c.requires.state.groups.grouped in
    let rows = group_count state.cells.now first in
    let relabelled : IsRelabelled s f index ahead = record {
      last = omega (arith, some);
      count = c.relax.auto.ahead ∙ value ∙ groups;
      leads = λ g l leads. let new = rw (c.deref_mut.ensures.value) at (c.relax.ensures.ahead g (omega (arith, l, value, groups))) in omega (arith, new, leads);
      labels = λ i l.
          let g = group_at s i in
          let lg = c.requires.state.groups.group i l in
          let new = rw (c.deref_mut.ensures.value, c.deref.ensures.value, price) at (c.relax.ensures.ahead g (omega (arith, lg, value, groups))) in
          let cost : get_or c.column.result.now g 0 ≡ cell_cost (cost_at s.table i (settled_at f index)) = c.column.ensures.each g (omega (arith, lg, rows)) ∙ ap (λ y. cell_cost (cost_at (group_table state.cells.now first) g y)) last.is ∙ ap cell_cost (group_cells state.cells.now state.groups i (settled_at f index) c.requires.state.groups l) in
          let u : get_or state.u.items g 0 ≡ get_or s.u i 0 = sym (group_price of state.u.items i (omega (arith, l, grouped))) in
          new ∙ ap (λ y. min (ahead_of f g) (through (f.front + 1) (get_or s.v (settled_at f index) 0) y (get_or state.u.items g 0))) cost ∙ ap (λ y. min (ahead_of f g) (through (f.front + 1) (get_or s.v (settled_at f index) 0) (cell_cost (cost_at s.table i (settled_at f index))) y)) u;
    } in
    let is : (with_items f.ahead ahead).items ≡ ahead = with_items_is f.ahead ahead (c.relax.auto.ahead ∙ c.deref_mut.ensures.len) in
    let done : IsSearch s (record f { ahead = with_items f.ahead ahead }) (index + 1) = search_relaxed s f index (with_items f.ahead ahead) c.requires.state.keeps h (rw is relabelled) in
    let all : index + 1 ≡ length f.orders.items = omega (arith, some) in
    subst (λ (n : ℕ). IsSearch s (record f { ahead = with_items f.ahead ahead }) n) all done
