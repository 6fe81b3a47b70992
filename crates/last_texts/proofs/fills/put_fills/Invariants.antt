use Rattle.std.proofs.Common.{◌≡◌, ℕ, List, take}
use Rattle.std.specs.BTreeMap.{get}
use Rattle.fleet_rows.specs.Kept.{compare_numbers}
use Rattle.last_texts.specs.Fills.{fills_after}
use Rattle.last_texts.proofs.fills.put_fills.Given as goal

-- what is known by the notes so far
abbrev pub invariant-loop-note : goal.invariant-loop-note
invariant-loop-note l = (order : List ℕ) → get compare_numbers l.late_fills order ≡ fills_after (take l.note-index l.notes) (get compare_numbers l.initial.late_fills) order
