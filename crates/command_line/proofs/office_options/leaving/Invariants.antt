use Rattle.std.proofs.Common.{take}
use Rattle.command_line.specs.Values.{AreReadAs, all_lent}
use Rattle.rail_codes.specs.WagonNumber.{wagon_number_of}
use Rattle.command_line.proofs.office_options.leaving.Given as goal

-- the wagons of the texts so far
abbrev pub invariant-loop-text : goal.invariant-loop-text
invariant-loop-text l = AreReadAs wagon_number_of (all_lent (take l.text-index l.texts)) l.wagons.items
