use Rattle.line_network.proofs.NetworkLemmas.{place_known, place_unknown}
use Rattle.line_network.proofs.network.Network.index_of.Goals as goal

pub returns-clause-known : goal.returns-clause-known
returns-clause-known c = rw (← c.self.view_is) (place_known c.self.inside.places.keys c.args.place c.get_index_of.result c.get_index_of.ensures.index)

pub returns-clause-unknown : goal.returns-clause-unknown
returns-clause-unknown c = rw (← c.self.view_is) (place_unknown c.self.inside.places.keys c.args.place c.get_index_of.result c.get_index_of.ensures.index)
