use Rattle.std.proofs.Common.{◌≡◌, ◌∙◌, ap, slice_get}
use Rattle.std.specs.List.{filter_map}
use Rattle.fleet_rows.specs.EmptyWagons.{empty_at, empty_in}
use Rattle.fleet_rows.proofs.EmptyCounts.{standing_are, wagons_are}
use Rattle.fleet_rows.proofs.wagon_rows.WagonRows.empty_at.Goals as goal

rows_are : (c : goal.After-standing_so) → c.standing_so.result.now ≡ empty_at c.args.self.now c.args.class c.args.place
rows_are c =
    rw (← c.self.view_is) (rw (c.deref.ensures.value, c.deref-2.ensures.value) at c.standing_so.ensures
    ∙ standing_are c.self.inside.rows.items (record { place = c.args.place; class = c.args.class }) c.self.inside.empty.items _ c.self.invariant.listed)

pub returns-clause-rows : goal.returns-clause-rows
returns-clause-rows c = rows_are c

pub returns-clause-wagons : goal.returns-clause-wagons
returns-clause-wagons c = ap (filter_map (λ k. empty_in (slice_get c.args.self.now k))) (rows_are c) ∙ wagons_are c.args.class c.args.place c.args.self.now
