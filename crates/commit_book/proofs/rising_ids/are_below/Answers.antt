use Rattle.std.proofs.Common.{arith, sym}
use Rattle.std.proofs.lemmas.Bool.Decides.{nat_tests}
use Rattle.commit_book.proofs.NotedIds.{all_below}
use Rattle.commit_book.proofs.rising_ids.are_below.Goals as goal

pub returns-in-Some : goal.returns-in-Some
returns-in-Some c below = all_below c.args.notes.now c.args.number c.in-Some.last.now c.requires (sym c.in-Some.ensures.value) (grind (arith, nat_tests, below))
