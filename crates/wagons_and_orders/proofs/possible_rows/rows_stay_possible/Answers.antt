use Rattle.wagons_and_orders.proofs.Possible.{stay_possible}
use Rattle.wagons_and_orders.proofs.possible_rows.rows_stay_possible.Goals as goal

pub returns : goal.returns
returns c = stay_possible
