use Rattle.std.proofs.Common.{◌∙◌, sym}
use Rattle.commit_book.proofs.SameLists.{same_wagons}
use Rattle.commit_book.proofs.same_problem.are_same_wagons.Goals as goal

pub returns : goal.returns
returns c = λ same. same_wagons c.args.one.now c.args.other.now (sym c.eq.ensures ∙ same)
