use Rattle.operating_db.proofs.Commits.{free_there, next_new}
use Rattle.operating_db.proofs.States.{promised_state}
use Rattle.operating_db.proofs.office_state.OfficeState.promise.Goals as goal

pub promise-requires : goal.promise-requires
promise-requires c = free_there _ (rw (← c.self.view_is) at c.requires).free

pub promise-requires-2-clause-unpromised : goal.promise-requires-2-clause-unpromised
promise-requires-2-clause-unpromised c = next_new _ (c.args.number, c.args.id) (rw (← c.self.view_is) at c.requires) c.self.invariant.promises.agree

pub invariant_of-self : goal.invariant_of-self
invariant_of-self c = promised_state _ (c.args.number, c.args.id) c.promise.new.self c.promise-2.new.self c.promise.ensures c.promise-2.ensures (rw (← c.self.view_is) at c.requires) c.self.invariant
