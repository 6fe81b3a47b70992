-- What is made of a problem over a network: its table, and the moments up to which that is the table of the same wagons and
-- orders.
use Rattle.std.specs.Prelude.{◌≡◌, ◌≤◌, ℕ, List, Some}
use Rattle.line_network.specs.Network.{NetworkValue}
use Rattle.line_network.specs.Networks.{network_at}
use Rattle.problem_table.specs.Allowed.{IsTableOf}
use Rattle.problem_table.specs.Lasting.{IsLastingTable}
use Rattle.cost_table.specs.Problem.{ProblemValue}
use Rattle.commit_book.specs.declared.made_problem.MadeProblem.{MadeProblem}

-- what is made of a problem over a network of this number
pub record IsMadeOf (network : NetworkValue) (number : ℕ) (problem : ProblemValue) (made : MadeProblem) : Type 0 where
  pub problem_is : made.problem ≡ problem
  pub number_is : made.network ≡ number
  pub within : problem.at ≤ made.timed.until
  pub lasts : (m : ℕ) → problem.at ≤ m → m ≤ made.timed.until → IsTableOf network (record problem { at = m }) made.timed.cells
  pub by_wagon : IsLastingTable network problem made.timed.cells made.timed.lasts.items

-- it is made of its problem over the network of its number among these
pub record IsMadeAmong (networks : List NetworkValue) (made : MadeProblem) : Type 0 where
  pub network : NetworkValue
  pub numbered : network_at networks made.network ≡ Some network
  pub is_made : IsMadeOf network made.network made.problem made
