-- The pairs of a plan of a problem's table are pairs of the problem.
use Rattle.std.proofs.Common.{◌≡◌, ℕ, ◌<◌, List, [], ◌∷◌, All, length, ap, ◌∙◌, subst}
use Rattle.std.proofs.lemmas.List.{length-map}
use Rattle.std.proofs.lemmas.List.Elements.{All-cons, All-nil}
use Rattle.wagons_and_orders.specs.Wanted.{WantedOrder}
use Rattle.cost_table.specs.Plan.{AllAllowed}
use Rattle.cost_table.specs.Problem.{ProblemValue, lacks_of, penalties_of}
use Rattle.cost_table.specs.Table.{Table, wagon_count}
use Rattle.price_checker.specs.Snap.{IsInRange}
use Rattle.dispatch_sheet.specs.PlanText.{FitsProblem}

-- the table of a problem fits it
pub table_fits : (problem : ProblemValue) (t : Table) → wagon_count t ≡ length problem.wagons → t.penalties ≡ penalties_of problem.orders → t.lacks ≡ lacks_of problem.orders → FitsProblem problem t
table_fits problem t wagons penalties lacks =
    record { wagons = wagons; orders = ap length lacks ∙ length-map problem.orders (λ (o : WantedOrder). o.lack); penalties = penalties }

-- the pairs of a plan of a problem's table are pairs of the problem
pub plan_in_range : (problem : ProblemValue) (t : Table) (pairs : List (ℕ × ℕ)) → FitsProblem problem t → AllAllowed t pairs → All (IsInRange problem) pairs
plan_in_range problem t [] fits allowed = All-nil (IsInRange problem)
plan_in_range problem t (pair ∷ pairs) fits allowed =
    let wagon = subst (λ (n : ℕ). pair.0 < n) fits.wagons allowed.0.0 in
    let order = subst (λ (n : ℕ). pair.1 < n) fits.orders allowed.0.1 in
    All-cons (IsInRange problem) pair pairs (wagon, order) (plan_in_range problem t pairs fits allowed.1)
