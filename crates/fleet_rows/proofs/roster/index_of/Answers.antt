use Rattle.std.proofs.Common.{rules}
use Rattle.std.proofs.lemmas.List.Sorted.{answers_always}
use Rattle.fleet_rows.proofs.RosterLemmas.{searched}
use Rattle.fleet_rows.proofs.roster.index_of.Goals as goal

-- the closure gives a row's number
pub returns-clause-found : goal.returns-clause-found
returns-clause-found c =
    let by_number = c.binary_search_by_key.ensures.position (λ row. row.number) (answers_always _ _ _ (λ f a r g called. search rules)) in
    (searched c.args.rows.now c.args.number c.binary_search_by_key.result c.requires c.binary_search_by_key.ensures.bound by_number).found

pub returns-clause-absent : goal.returns-clause-absent
returns-clause-absent c =
    let by_number = c.binary_search_by_key.ensures.position (λ row. row.number) (answers_always _ _ _ (λ f a r g called. search rules)) in
    (searched c.args.rows.now c.args.number c.binary_search_by_key.result c.requires c.binary_search_by_key.ensures.bound by_number).absent
