use denote.Param.Send.{sendable}
use Rattle.std.proofs.Crossing.{crosses}
use Rattle.std.proofs.Common.{rules}
use Rattle.sessions.proofs.LostSeats.{lost_first, lost_later}
use Rattle.sessions.proofs.SharedBooks.{book_sync, receipt_sync}
use Rattle.sessions.proofs.closing.+seats.Goals as goal

pub join-one-requires-send-F : goal.join-one-requires-send-F
join-one-requires-send-F g t c κs within = search (book_sync, receipt_sync, crosses, sendable) depth 60 fits 50000

pub returns-in-Some-one-clause-some : goal.returns-in-Some-one-clause-some
returns-in-Some-one-clause-some g t c = lost_first c.args.book.now.state.history c.args.seats.now c.in-Some.seat.now c.in-Some.others.now c.receipts-receipts.result.now c.number.result c.in-Some-one.entry (search rules) (search rules) (search rules) (search rules)

pub returns-in-None-clause-some : goal.returns-in-None-clause-some
returns-in-None-clause-some g t c = lost_later c.args.book.now.state.history c.args.seats.now c.in-Some.seat.now c.in-Some.others.now c.join-one.result.1 (search rules) (search rules)
