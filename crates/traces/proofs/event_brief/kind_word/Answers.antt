use Rattle.std.proofs.Common.{codes, refl}
use Rattle.traces.proofs.Words.{reads}
use Rattle.traces.proofs.event_brief.kind_word.Goals as goal

pub returns-in-Release-clause-reads : goal.returns-in-Release-clause-reads
returns-in-Release-clause-reads c = reads c.args.kind (codes "release") (rw c.in-Release.is refl)

pub returns-in-Departure-clause-reads : goal.returns-in-Departure-clause-reads
returns-in-Departure-clause-reads c = reads c.args.kind (codes "departure") (rw c.in-Departure.is refl)

pub returns-in-YardArrival-clause-reads : goal.returns-in-YardArrival-clause-reads
returns-in-YardArrival-clause-reads c = reads c.args.kind (codes "yard_arrival") (rw c.in-YardArrival.is refl)

pub returns-in-YardDeparture-clause-reads : goal.returns-in-YardDeparture-clause-reads
returns-in-YardDeparture-clause-reads c = reads c.args.kind (codes "yard_departure") (rw c.in-YardDeparture.is refl)

pub returns-in-Exception-clause-reads : goal.returns-in-Exception-clause-reads
returns-in-Exception-clause-reads c = reads c.args.kind (codes "exception") (rw c.in-Exception.is refl)

pub returns-in-Arrival-clause-reads : goal.returns-in-Arrival-clause-reads
returns-in-Arrival-clause-reads c = reads c.args.kind (codes "arrival") (rw c.in-Arrival.is refl)

pub returns-in-Delivery-clause-reads : goal.returns-in-Delivery-clause-reads
returns-in-Delivery-clause-reads c = reads c.args.kind (codes "delivery") (rw c.in-Delivery.is refl)
