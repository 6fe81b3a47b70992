use Rattle.std.proofs.Common.{sym, subst}
use Rattle.price_checker.specs.Faults.{first_fault}
use Rattle.price_checker.proofs.Named.{AllNamed, fault_named, positions_named}
use Rattle.price_checker.proofs.named_check.check_named.Goals as goal

pub with_names-requires : goal.with_names-requires
with_names-requires g c =
    let names = g.N.PairNames.names c.args.names.now in
    let named = positions_named names c.args.pairs.now c.in_ok-positions.positions.items c.in_ok-positions.ensures.found in
    let seen = subst (AllNamed names) (sym c.deref.ensures.value) named in
    fault_named names c.args.cells.now c.deref.result.now c.args.prices.now.u.items c.args.prices.now.v.items c.requires.wagons c.requires.orders seen c.in-Err.fault (sym {b = first_fault c.args.cells.now c.deref.result.now c.args.prices.now.u.items c.args.prices.now.v.items} c.in-Err.ensures.fault)
