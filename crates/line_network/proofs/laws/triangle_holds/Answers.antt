use Rattle.line_network.proofs.Walks.{triangle}
use Rattle.line_network.proofs.laws.triangle_holds.Goals as goal

pub returns : goal.returns
returns c = triangle
