use Rattle.std.proofs.Common.{◌≡◌, take}
use Rattle.std.specs.List.{fold}
use Rattle.office_map.proofs.outside.note_rows.Given as goal

abbrev pub invariant-loop-row : goal.invariant-loop-row
invariant-loop-row g l = l.places.items ≡ fold (g.T.Placed.with_place l.network) l.initial.places.items (take l.row-index l.rows)
