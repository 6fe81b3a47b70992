use Rattle.office_map.proofs.Loops.{place_noted}
use Rattle.office_map.proofs.map.network_places.Goals as goal

pub loop-k-preserved : goal.loop-k-preserved
loop-k-preserved c = place_noted c.args.network.now.places _ _ c.loop-k.k c.loop-k.invariant (c.in_ok-note_place.ensures {u = tt})
