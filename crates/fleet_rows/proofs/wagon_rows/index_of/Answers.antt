use Rattle.std.proofs.Common.{rules}
use Rattle.std.proofs.lemmas.List.Sorted.{answers_always}
use Rattle.fleet_rows.proofs.Wagons.{placed, Placed}
use Rattle.fleet_rows.proofs.wagon_rows.index_of.Goals as goal

-- the closure gives a row's number
there : (c : goal.After-ok) → Placed c.args.rows.now c.args.number c.ok.result
there c =
    let by_number = c.binary_search_by_key.ensures.position (λ row. row.number) (answers_always _ _ _ (λ f a r g called. search rules)) in
    rw c.ok.ensures.value (placed c.args.rows.now c.args.number c.binary_search_by_key.result c.requires c.binary_search_by_key.ensures.bound by_number)

pub returns-clause-found : goal.returns-clause-found
returns-clause-found c = (there c).found

pub returns-clause-absent : goal.returns-clause-absent
returns-clause-absent c = (there c).absent
