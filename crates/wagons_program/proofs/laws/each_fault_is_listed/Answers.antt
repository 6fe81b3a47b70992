use Rattle.wagons_program.proofs.Faults.{listed}
use Rattle.wagons_program.proofs.laws.each_fault_is_listed.Goals as goal

pub returns : goal.returns
returns g c = listed _
