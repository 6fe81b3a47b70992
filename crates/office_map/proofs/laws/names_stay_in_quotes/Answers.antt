use Rattle.office_map.proofs.Names.{names}
use Rattle.office_map.proofs.laws.names_stay_in_quotes.Goals as goal

pub returns : goal.returns
returns c = names
