use Rattle.std.proofs.Common.{◌≡◌, ℕ, zero, suc, List, [], ◌∷◌, Some, sym, inl, inr, arith}
use Rattle.std.specs.Prelude.{All}
use Rattle.std.proofs.lemmas.List.Elements.{All-cons, All-nil}
use Rattle.std.proofs.lemmas.Option.{slice_get_within}
use Rattle.line_network.specs.Network.{NetworkValue}
use Rattle.line_network.specs.Networks.{network_at}
use Rattle.problem_table.specs.Allowed.{IsTableOf}
use Rattle.cost_table.specs.Plan.{AllAllowed}
use Rattle.cost_table.specs.Problem.{ProblemValue}
use Rattle.cost_table.specs.Table.{Table}
use Rattle.price_checker.specs.Snap.{IsInRange}
use Rattle.commit_book.specs.Made.{IsMadeOf}
use Rattle.commit_book.specs.declared.made_problem.MadeProblem.{MadeProblem}
use Rattle.sessions.specs.Planning.{IsUnknownNetwork}
use Rattle.sessions.proofs.SameTables.{columns}
use Rattle.sessions.proofs.planning.work_with_table.Goals as goal

-- a network that is there has a known number
known : (networks : List NetworkValue) (number : ℕ) (network : NetworkValue) → Some network ≡ network_at networks number → IsUnknownNetwork networks number → ⊥
known networks zero network h unknown = cc
known networks (suc k) network h (inl zero_is) = omega arith
known networks (suc k) network h (inr past) = let within = slice_get_within networks k network (sym h) in omega (arith, within, past)

-- pairs that are allowed are positions in the problem
in_range : (net : NetworkValue) (problem : ProblemValue) (t : Table) → IsTableOf net problem t → (pairs : List (ℕ × ℕ)) → AllAllowed t pairs → All (IsInRange problem) pairs
in_range net problem t is [] allowed = All-nil (IsInRange problem)
in_range net problem t is (p ∷ pairs) allowed =
    All-cons (IsInRange problem) p pairs (omega (arith, allowed.0.0, is.wagons), omega (arith, allowed.0.1, columns net problem t is)) (in_range net problem t is pairs allowed.1)

-- what is made of a problem has its table
made_table : (net : NetworkValue) (number : ℕ) (problem : ProblemValue) (made : MadeProblem) → IsMadeOf net number problem made → IsTableOf net problem made.timed.cells
made_table net number problem made h = h.lasts problem.at (omega arith) h.within

pub returns-in-Ok-clause-planned : goal.returns-in-Ok-clause-planned
returns-in-Ok-clause-planned c = record {
  network = c.in-Some.tables.now;
  in_force = rw (← c.network.ensures) (sym c.in-Some.ensures);
  table = c.in_ok-made.made.timed.cells;
  is_table = rw (← c.problem.ensures) (made_table c.in-Some.tables.now _ c.problem.result.now c.in_ok-made.made c.in_ok-made.ensures);
  certificate = rw c.cells.ensures at c.in-Ok.ensures.certificate;
  optimal = rw c.cells.ensures at c.in-Ok.ensures.optimal;
}

pub returns-in-Ok-clause-in_range : goal.returns-in-Ok-clause-in_range
returns-in-Ok-clause-in_range c =
    in_range c.in-Some.tables.now c.args.snap.now.problem c.in_ok-made.made.timed.cells (rw (← c.problem.ensures) (made_table c.in-Some.tables.now _ c.problem.result.now c.in_ok-made.made c.in_ok-made.ensures)) _ (rw c.cells.ensures at c.in-Ok.ensures.certificate).plan.allowed

pub returns-in-Ok-clause-network : goal.returns-in-Ok-clause-network
returns-in-Ok-clause-network c =
    (λ e. cc e, λ unknown. absurd (known c.args.networks.now c.network.result c.in-Some.tables.now c.in-Some.ensures (rw c.network.ensures unknown)))

pub returns-in-Err-clause-network : goal.returns-in-Err-clause-network
returns-in-Err-clause-network c =
    (λ e. cc e, λ unknown. absurd (known c.args.networks.now c.network.result c.in-Some.tables.now c.in-Some.ensures (rw c.network.ensures unknown)))
