-- What a planner makes of a snapshot.
use Rattle.std.specs.Prelude.{◌≡◌, ◌<◌, ◌⊎◌, ℕ, List, length, Some}
use Rattle.line_network.specs.Network.{NetworkValue}
use Rattle.line_network.specs.Networks.{network_at}
use Rattle.problem_table.specs.Allowed.{IsTableOf}
use Rattle.cost_table.specs.Plan.{IsOptimal}
use Rattle.cost_table.specs.Table.{Table}
use Rattle.price_checker.specs.Certificate.{IsCertificate}
use Rattle.price_checker.specs.Snap.{SnapValue}

-- Networks are numbered from 1: there is none of number 0, and none past the last.
abbrev pub IsUnknownNetwork : List NetworkValue → ℕ → Type 0
IsUnknownNetwork networks number = (number ≡ 0) ⊎ (length networks < number)

-- Pairs and prices that are a certificate of the table of a snapshot's problem over the network of its version: no plan of
-- that table costs less.
pub record IsPlanned (networks : List NetworkValue) (snap : SnapValue) (pairs : List (ℕ × ℕ)) (u v : List ℕ) : Type 0 where
  pub network : NetworkValue
  pub in_force : network_at networks snap.network ≡ Some network
  pub table : Table
  pub is_table : IsTableOf network snap.problem table
  pub certificate : IsCertificate table pairs u v
  pub optimal : IsOptimal table pairs
