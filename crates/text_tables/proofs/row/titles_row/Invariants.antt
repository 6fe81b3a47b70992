use Rattle.std.proofs.Common.{◌≡◌, map, take}
use Rattle.text_tables.proofs.row.titles_row.Given as goal

abbrev pub invariant-loop-title : goal.invariant-loop-title
invariant-loop-title l = l.row ≡ map (λ title. title.now) (take l.title-index l.titles)
