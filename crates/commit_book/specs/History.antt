-- Histories: the office after the entries of one, and when it is legal. Version n is the office after the first n
-- entries; version 0 is the office that the book began with.
use Rattle.std.specs.Prelude.{◌≡◌, ◌≢◌, ◌≤◌, ℕ, List, length, take, Some, All, slice_get}
use Rattle.std.specs.List.{AllZip, fold}
use Rattle.std.specs.Result.{result_unwrap_or}
use Rattle.rail_codes.specs.declared.message_id.MessageId.{MessageId}
use Rattle.move_messages.specs.declared.message.Message as movement
use Rattle.move_messages.specs.declared.commit_text.CommitText.{CommitText}
use Rattle.wagons_and_orders.specs.declared.free_wagon.FreeWagon.{FreeWagon}
use Rattle.line_network.specs.Network.{NetworkValue}
use Rattle.line_network.specs.Networks.{network_at}
use Rattle.problem_table.specs.Allowed.{IsTableOf}
use Rattle.cost_table.specs.NamesFound.{StandAt}
use Rattle.cost_table.specs.Plan.{IsOptimal}
use Rattle.cost_table.specs.Problem.{ProblemValue, names_of_problem}
use Rattle.cost_table.specs.Table.{Table}
use Rattle.price_checker.specs.Certificate.{IsCertificate}
use Rattle.operating_db.specs.After.{after_call}
use Rattle.operating_db.specs.Commits.{Pair}
use Rattle.operating_db.specs.Office.{Office}
use Rattle.operating_db.specs.Problem.{problem_of}
use Rattle.operating_db.specs.Steps.{IsPossible}
use Rattle.move_messages.specs.declared.event.Event.{Event}
use Rattle.move_messages.specs.declared.event.Event.TheVariants.{Message, Place, Withdraw, Commit, Revise}
use Rattle.commit_book.specs.Commits.{free_in, wagon_of}
use Rattle.commit_book.specs.Setting.{Setting}

-- ---- versions

-- the office after an event; one that isn't possible leaves it as it was
abbrev pub after : (networks : ℕ) → Office → Event → Office
after networks office event = result_unwrap_or (after_call networks office event) office

-- the office after these events
abbrev pub after_all : (networks : ℕ) → Office → List Event → Office
after_all networks office events = fold (after networks) office events

-- the office after these entries
abbrev pub replay : Setting → List Event → Office
replay setting entries = after_all (length setting.networks) setting.first entries

abbrev pub version : Setting → List Event → ℕ → Office
version setting history n = replay setting (take n history)

-- the problem of a version at a moment
abbrev pub problem_at : Setting → List Event → (n at : ℕ) → ProblemValue
problem_at setting history n at = problem_of (version setting history n) at

-- the table of that problem, over the network in force in that version
pub record IsTableAt (setting : Setting) (history : List Event) (n at : ℕ) (table : Table) : Type 0 where
  pub network : NetworkValue
  pub in_force : network_at setting.networks (version setting history n).network ≡ Some network
  pub of_problem : IsTableOf network (problem_at setting history n at) table

-- ---- legal histories

-- the wagon of a pair is free now as it is in the problem: with the same number, class and load limit, at the same place
-- and from the same moment on
abbrev pub IsUnchanged : ProblemValue → (now : Office) → Pair → Type 0
IsUnchanged problem now pair = (wagon : FreeWagon) × (wagon_of problem pair.0 ≡ Some wagon) × (free_in now pair.0 ≡ Some wagon)

-- the wagon and the order of each pair stand in the problem at the pair's position
abbrev pub ArePositions : ProblemValue → List Pair → List (ℕ × ℕ) → Type 0
ArePositions problem pairs positions = AllZip (λ (pair : Pair) (position : ℕ × ℕ). StandAt (names_of_problem problem) pair.0 pair.1 position) pairs positions

-- Of a commit behind a history: in the version and at the moment that it names, its pairs are a plan of least cost, as
-- its prices show; and each wagon of it is free now as it was then.
pub record IsLeast (setting : Setting) (history : List Event) (commit : CommitText) : Type 0 where
  pub had : commit.version ≤ length history
  pub table : Table
  pub is_table : IsTableAt setting history commit.version commit.at table
  pub positions : List (ℕ × ℕ)
  pub are_positions : ArePositions (problem_at setting history commit.version commit.at) commit.pairs positions
  pub certificate : IsCertificate table positions commit.u commit.v
  pub optimal : IsOptimal table positions
  pub unchanged : All (IsUnchanged (problem_at setting history commit.version commit.at) (replay setting history)) commit.pairs

-- no message of a history has this id
abbrev pub IsFresh : MessageId → List Event → Type 0
IsFresh id history = (n : ℕ) (other : movement.Message) → slice_get history n ≡ Some (Message other) → other.id ≢ id

-- what an entry owes to those before it, beside being possible
abbrev pub Owes : Setting → List Event → Event → Type 0
Owes setting history (Message message) = IsFresh message.id history
Owes setting history (Place text) = Unit {0}
Owes setting history (Withdraw id) = Unit {0}
Owes setting history (Commit commit) = IsLeast setting history commit
Owes setting history (Revise network) = Unit {0}

-- An entry behind a history: the event is possible there, and pays what it owes. Of a commit, that it is possible says
-- that its wagons are distinct and free, and its orders lack as many as they are given.
pub record IsEntry (setting : Setting) (history : List Event) (event : Event) : Type 0 where
  pub possible : IsPossible (length setting.networks) (replay setting history) event
  pub owed : Owes setting history event

-- A legal history: within its limit, and each entry is one behind those before it.
pub record IsLegal (setting : Setting) (history : List Event) : Type 0 where
  pub within : length history ≤ setting.entries
  pub entries : (n : ℕ) (event : Event) → slice_get history n ≡ Some event → IsEntry setting (take n history) event
