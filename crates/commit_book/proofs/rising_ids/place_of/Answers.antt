use Rattle.std.proofs.Common.{rules}
use Rattle.std.proofs.lemmas.List.Sorted.{answers_always}
use Rattle.commit_book.proofs.NotedIds.{placed}
use Rattle.commit_book.proofs.rising_ids.place_of.Goals as goal

-- the closure gives a note's number
pub returns : goal.returns
returns c =
    let by_number = c.binary_search_by_key.ensures.position (λ note. note.number) (answers_always _ _ _ (λ f a r g called. search rules)) in
    rw c.ok.ensures.value (placed c.args.notes.now c.args.number c.binary_search_by_key.result c.requires c.binary_search_by_key.ensures.bound by_number)
