-- The pairs of a plan, by name, stand at the positions of the plan.
use Rattle.std.proofs.Common.{◌<◌, ℕ, List, [], ◌∷◌, length, map, arith}
use Rattle.std.proofs.lemmas.List.{length-map}
use Rattle.std.proofs.lemmas.Option.{slice_get-get_or}
use Rattle.wagons_and_orders.specs.declared.free_wagon.FreeWagon.{FreeWagon}
use Rattle.wagons_and_orders.specs.Wanted.{WantedOrder}
use Rattle.line_network.specs.Network.{NetworkValue}
use Rattle.problem_table.specs.Allowed.{IsTableOf}
use Rattle.cost_table.specs.Plan.{AllAllowed}
use Rattle.cost_table.specs.Problem.{ProblemValue, order_names, wagon_names}
use Rattle.cost_table.specs.Table.{Table}
use Rattle.price_checker.specs.Snap.{named_pair}
use Rattle.commit_book.specs.History.{ArePositions}
use Rattle.sessions.proofs.SameTables.{columns}

pub positions_named : (net : NetworkValue) (problem : ProblemValue) (t : Table) → IsTableOf net problem t → (places : List (ℕ × ℕ)) → AllAllowed t places → ArePositions problem (map (named_pair problem) places) places
positions_named net problem t is [] allowed = tt
positions_named net problem t is (p ∷ places) allowed =
    let i : p.0 < length (wagon_names problem.wagons) = omega (arith, allowed.0.0, is.wagons, length-map problem.wagons (λ (w : FreeWagon). w.number)) in
    let j : p.1 < length (order_names problem.orders) = omega (arith, allowed.0.1, columns net problem t is, length-map problem.orders (λ (o : WantedOrder). o.order.id)) in
    ((slice_get-get_or (wagon_names problem.wagons) p.0 [] i, slice_get-get_or (order_names problem.orders) p.1 [] j), positions_named net problem t is places allowed.1)
