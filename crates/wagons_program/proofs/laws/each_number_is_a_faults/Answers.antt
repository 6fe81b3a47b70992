use Rattle.wagons_program.proofs.Faults.{answered}
use Rattle.wagons_program.proofs.laws.each_number_is_a_faults.Goals as goal

pub returns : goal.returns
returns g c = answered _
