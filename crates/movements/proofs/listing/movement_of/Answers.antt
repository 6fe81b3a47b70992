use Rattle.movements.proofs.Listed.{order_there}
use Rattle.movements.proofs.listing.movement_of.Goals as goal

pub unwrap-requires : goal.unwrap-requires
unwrap-requires c =
    order_there (λ row. row.now) c.order.result c.args.state.now.office c.args.row.now c.args.id c.for_the_prover.ensures.valid.promises c.requires.known c.requires.promised c.order.ensures
