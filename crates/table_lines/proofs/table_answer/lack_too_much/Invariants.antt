use Rattle.std.proofs.Common.{◌≡◌, ◌≤◌, take}
use Rattle.std.specs.Prelude.{sum}
use Rattle.cost_table.specs.TableLimits.{max_table_lack}
use Rattle.table_lines.proofs.table_answer.lack_too_much.Given as goal

abbrev pub invariant-loop-lack : goal.invariant-loop-lack
invariant-loop-lack l = (l.total ≡ sum (take l.lack-index l.lacks)) × (l.total ≤ max_table_lack)
