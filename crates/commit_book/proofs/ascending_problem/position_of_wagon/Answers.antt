use Rattle.std.proofs.Common.{rules}
use Rattle.std.proofs.lemmas.List.Sorted.{answers_always}
use Rattle.commit_book.proofs.Searches.{searched}
use Rattle.commit_book.proofs.ascending_problem.position_of_wagon.Goals as goal

-- the closure gives a wagon's number
pub returns : goal.returns
returns c =
    let by_number = c.binary_search_by_key.ensures.position (λ wagon. wagon.number) (answers_always _ _ _ (λ f a r g called. search rules)) in
    rw c.ok.ensures.value (searched c.args.wagons.now c.args.number c.binary_search_by_key.result c.requires.ascending c.requires.distinct c.binary_search_by_key.ensures.bound by_number)
