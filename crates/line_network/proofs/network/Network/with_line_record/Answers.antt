use Rattle.std.proofs.Common.{◌≤◌, ◌+◌, sym, subst, length}
use Rattle.line_network.proofs.NetworkLemmas.{IsNetwork-made, made_in_turn, with_record-made}
use Rattle.line_network.specs.Network.{NetworkValue}
use Rattle.line_network.specs.NetworkLimits.{max_network_lines}
use Rattle.line_network.proofs.network.Network.with_line_record.Goals as goal

pub invariant_of-result : goal.invariant_of-result
invariant_of-result c =
    let network : NetworkValue = record { places = c.self.inside.places.keys; lines = c.self.inside.lines.items } in
    let made = made_in_turn network c.args.read.now c.place_number.new.places.keys c.place_number-2.new.places.keys c.add_lines.new.lines.items c.in_ok-from.from c.in_ok-to.to
    c.in_ok-from.ensures.added c.in_ok-to.ensures.added c.in_ok-from.ensures.number c.in_ok-to.ensures.number c.in_ok-add_lines.ensures.added (c.in_ok-to.ensures.room (c.in_ok-from.ensures.room c.self.invariant.few_places)) in
    let room : length network.lines + 2 ≤ max_network_lines = subst (λ (n : NetworkValue). length n.lines + 2 ≤ max_network_lines) (sym c.self.view_is) c.requires.room in
    IsNetwork-made network c.args.read.now _ made c.self.invariant c.requires.lengths room

pub returns-clause-meaning : goal.returns-clause-meaning
returns-clause-meaning c =
    let network : NetworkValue = record { places = c.self.inside.places.keys; lines = c.self.inside.lines.items } in
    let made = made_in_turn network c.args.read.now c.place_number.new.places.keys c.place_number-2.new.places.keys c.add_lines.new.lines.items c.in_ok-from.from c.in_ok-to.to
    c.in_ok-from.ensures.added c.in_ok-to.ensures.added c.in_ok-from.ensures.number c.in_ok-to.ensures.number c.in_ok-add_lines.ensures.added (c.in_ok-to.ensures.room (c.in_ok-from.ensures.room c.self.invariant.few_places)) in
    with_record-made network c.args.self c.args.read.now _ c.self.view_is made
