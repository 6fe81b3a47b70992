use Rattle.operating_db.proofs.Walks.{walked}
use Rattle.operating_db.proofs.lists.waiting_orders.Goals as goal

pub returns : goal.returns
returns c = rw (← walked c.args.orders.now) (rw (c.as_slice.ensures.rows, c.waiting.ensures) at c.wanted_among.ensures)
