use Rattle.std.proofs.Common.{◌≡◌, take}
use Rattle.std.specs.BTreeMap.{get}
use Rattle.fleet_rows.specs.Kept.{compare_numbers}
use Rattle.last_texts.specs.Movers.{numbers_of}
use Rattle.last_texts.proofs.movers.moved_by.Given as goal

-- the wagons of the rows so far
abbrev pub invariant-loop-row : goal.invariant-loop-row
invariant-loop-row l = l.wagons.items ≡ numbers_of (get compare_numbers l.movers) l.company (take l.row-index l.rows)
