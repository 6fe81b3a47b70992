use Rattle.std.proofs.Common.{◌<◌, length}
use Rattle.cost_table.specs.Table.{wagon_count}
use Rattle.assignment.specs.inner.Groups.{AreGrouped, HasRoomFor}
use Rattle.assignment.proofs.groups.Groups.new.Given as goal

abbrev pub invariant-wagons : goal.invariant-wagons
invariant-wagons l = record {
  groups : AreGrouped l.cells l.i l.groups;
  room : HasRoomFor (wagon_count l.cells) l.groups;
  seen : 0 < length l.seen.items;
}
