use Rattle.std.proofs.Common.{arith, refl}
use Rattle.std.proofs.lemmas.Slice.Zip.{AllZip-long}
use Rattle.office_files.proofs.NetworkSteps.{all_networks, networks_more, no_networks}
use Rattle.office_files.proofs.first_office.read_networks.Goals as goal

pub loop-path-init : goal.loop-path-init
loop-path-init g c = no_networks (g.S.FileSystem.bytes_at c.args.rt.now) c.args.paths.now _ c.in_ok-networks.ensures.items

pub loop-path-preserved : goal.loop-path-preserved
loop-path-preserved g c =
    networks_more (g.S.FileSystem.bytes_at c.args.rt.now) c.args.paths.now c.loop-path.networks.items _ c.loop-path.path-index _ _ _ (omega arith) refl c.loop-path.invariant
    c.in_ok-push.ensures.items c.in_ok-read_network.ensures.network

pub returns-clause-networks : goal.returns-clause-networks
returns-clause-networks g c = all_networks (g.S.FileSystem.bytes_at c.args.rt.now) c.args.paths.now c.loop-path.networks.items c.loop-path.path-index (omega arith) c.loop-path.invariant

pub returns-clause-counted : goal.returns-clause-counted
returns-clause-counted g c =
    AllZip-long _ c.args.paths.now c.loop-path.networks.items
    (all_networks (g.S.FileSystem.bytes_at c.args.rt.now) c.args.paths.now c.loop-path.networks.items c.loop-path.path-index (omega arith) c.loop-path.invariant)
