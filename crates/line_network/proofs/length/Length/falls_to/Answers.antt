use Rattle.line_network.proofs.Numbering.{falls_match}
use Rattle.line_network.proofs.length.Length.falls_to.Goals as goal

pub returns : goal.returns
returns c = falls_match c.args.self c.args.way c.requires
