use Rattle.std.specs.Vec.{with_item}
use Rattle.std.proofs.Common.{refl}
use Rattle.assignment.specs.inner.State.{kept}
use Rattle.assignment.proofs.Closing.{search_closed, search_walked}
use Rattle.assignment.proofs.search.Search.lead_on.Goals as goal

pub returns-in-Some-clause-search : goal.returns-in-Some-clause-search
returns-in-Some-clause-search c = λ n long search. search_walked (kept c.args.state.now) c.args.self.now c.args.group n c.in-Some.wagon (with_item c.args.self.now.cursor c.args.group c.in-Some.wagon) search c.requires.group.within c.in-Some.ensures.walked refl

pub returns-in-None-clause-search : goal.returns-in-None-clause-search
returns-in-None-clause-search c = λ n long search. search_closed (kept c.args.state.now) c.args.self.now c.args.group n (with_item c.args.self.now.ahead c.args.group 0) (with_item c.args.self.now.closed_at c.args.group c.args.self.now.front) c.requires.state.keeps search long c.requires.some c.requires.group c.in-None.ensures.none refl refl
