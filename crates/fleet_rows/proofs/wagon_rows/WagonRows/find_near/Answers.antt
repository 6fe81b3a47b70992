use Rattle.std.proofs.Common.{◌≡◌, ◌∙◌, Some, ap, option_map, slice_get, sym}
use Rattle.std.proofs.lemmas.Option.{slice_get_within}
use Rattle.fleet_rows.proofs.Named.{read_at}
use Rattle.fleet_rows.proofs.Wagons.{found_in}
use Rattle.fleet_rows.proofs.wagon_rows.WagonRows.find_near.Goals as goal

there : (c : goal.In_ok-row) → slice_get c.self.inside.rows.items c.in_ok-index.index ≡ Some c.in_ok-row.row.now
there c =
    let (row, at, named) = rw (c.in_ok-index.was, c.deref.ensures.value) at c.index_near.ensures.found in
    let lookup = rw c.deref-2.ensures.value at c.get.ensures.lookup in
    sym (read_at c.get.result c.self.inside.rows.items c.in_ok-index.index lookup.0 lookup.1 (slice_get_within c.self.inside.rows.items c.in_ok-index.index row at)) ∙ ap (option_map (λ row. row.now)) c.in_ok-row.was

pub returns-clause-index : goal.returns-clause-index
returns-clause-index c = rw (← c.self.view_is) (there c)

pub returns-clause-row : goal.returns-clause-row
returns-clause-row c =
    let (row, at, named) = rw (c.in_ok-index.was, c.deref.ensures.value) at c.index_near.ensures.found in
    rw (← c.self.view_is) (found_in c.self.inside.rows.items c.in_ok-index.index row c.args.number (Some c.in_ok-row.row.now) c.self.invariant.kept.ascending at named (sym (there c)))
