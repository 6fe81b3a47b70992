use Rattle.std.proofs.Common.{subst}
use Rattle.faults.specs.declared.faults.ApplyFault.TheVariants.{OutOfMemory}
use Rattle.operating_db.specs.After.{after_call}
use Rattle.operating_db.specs.ApplyFault.{IsRefusal}
use Rattle.operating_db.specs.Office.{Office}
use Rattle.commit_book.proofs.Replays.{possible_wants}
use Rattle.commit_book.proofs.ledger.Ledger.refusal_without_memory.Goals as goal

pub possible-requires : goal.possible-requires
possible-requires c = rw c.self.invariant.replayed (rw (← c.self.view_is) at c.requires)

pub returns-in-Ok : goal.returns-in-Ok
returns-in-Ok c =
    let state = c.self.inside.state in
    let event = c.args.event.now in
    rw (← c.self.view_is) (subst (λ (o : Office). IsRefusal (after_call state.networks o event) OutOfMemory) c.self.invariant.replayed (possible_wants state.networks state.office event c.in-Ok.ensures.possible))
