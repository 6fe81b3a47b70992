-- What a book keeps beside its history.
use Rattle.std.specs.Prelude.{◌≡◌, ◌≢◌, ◌<◌, ◌≤◌, ◌==◌, ◌&&◌, nat_le, nat_lt, ℕ, Bool, if◌then◌else◌, List, [], ◌∷◌, ◌++◌, Option, Some, None, IfSome, IsSome, option_map, length, drop, map, true, false, All, slice_get}
use Rattle.std.specs.List.{AllZip}
use Rattle.line_network.specs.Network.{NetworkValue}
use Rattle.line_network.specs.Networks.{network_at}
use Rattle.problem_table.specs.Lasting.{IsLastingTable}
use Rattle.cost_table.specs.Problem.{ProblemValue}
use Rattle.move_messages.specs.declared.event.Event.{Event}
use Rattle.commit_book.specs.BookStep.{BookState, is_kept, kept_after}
use Rattle.commit_book.specs.Books.{BookValue, setting_with}
use Rattle.commit_book.specs.History.{IsLegal, IsTableAt, problem_at, version}
use Rattle.commit_book.specs.inner.Ledger.{LedgerValue}
use Rattle.price_checker.specs.Limits.{LimitNumbers}
use Rattle.commit_book.specs.Setting.{Setting}
use Rattle.commit_book.specs.declared.kept_problems.KeptProblem.{KeptProblem}
use Rattle.commit_book.specs.declared.made_problem.MadeProblem.{MadeProblem}

-- the version and the moment of a kept problem
abbrev pub which_of : KeptProblem → ℕ × ℕ
which_of kept = (kept.version, kept.problem.at)

-- one more, as the last; the first makes room where there are as many as may be
abbrev pub with_kept : ℕ → List KeptProblem → KeptProblem → List KeptProblem
with_kept most kept one = if nat_lt (length kept) most then kept ++ one ∷ [] else drop 1 kept ++ one ∷ []

-- whether a moment is within the span of what kept problems share
abbrev pub covers : MadeProblem → ℕ → Bool
covers made at = nat_le made.problem.at at && nat_le at made.timed.until

-- what has a kept problem's table, where it was made
abbrev pub made_of : KeptProblem → Option MadeProblem
made_of kept = option_map (λ made. made.value) kept.made

-- whether something was made whose table is that of this moment too
abbrev pub is_covered : (at : ℕ) → Option MadeProblem → Bool
is_covered at None = false
is_covered at (Some made) = covers made at

-- whether a kept problem is of a version, and its table was made and is that of this moment too
abbrev pub is_covering : (version at : ℕ) → KeptProblem → Bool
is_covering version at kept = kept.version == version && is_covered at (made_of kept)

-- a kept problem is the same as before, with the table that it had or without one
pub record IsKeptStill (old new : KeptProblem) : Type 0 where
  pub version : new.version ≡ old.version
  pub network : new.network ≡ old.network
  pub problem : new.problem ≡ old.problem
  pub made : IfSome (made_of new) (λ made. made_of old ≡ Some made)

-- the same problems are kept as before, in their order, each with the table that it had or without one
abbrev pub HaveFewerTables : (old new : List KeptProblem) → Type 0
HaveFewerTables old new = AllZip IsKeptStill old new

-- Of the kept problems but that at an index, this is where the last one with a table stands: none behind it has one. It is
-- that index itself where no other has one.
pub record IsLastOther (kept : List KeptProblem) (index other : ℕ) : Type 0 where
  pub has : other ≢ index → (one : KeptProblem) × (slice_get kept other ≡ Some one) × IsSome (made_of one)
  pub last : (k : ℕ) (one : KeptProblem) → slice_get kept k ≡ Some one → k ≢ index → other < k → made_of one ≡ None
  pub none : (k : ℕ) (one : KeptProblem) → slice_get kept k ≡ Some one → k ≢ index → other ≡ index → made_of one ≡ None

-- The problem at an index is kept with the table that it had, and so is the last other one with a table. No third has one.
pub record HaveTwoTables (old new : List KeptProblem) (index : ℕ) : Type 0 where
  pub other : ℕ
  pub last : IsLastOther old index other
  pub few : (k : ℕ) (one : KeptProblem) → slice_get new k ≡ Some one → k ≢ index → k ≢ other → made_of one ≡ None
  pub keeps : slice_get new index ≡ slice_get old index
  pub keeps_other : slice_get new other ≡ slice_get old other

-- something was made of one of the kept problems
pub record IsMadeIn (kept : List KeptProblem) (made : MadeProblem) : Type 0 where
  pub one : KeptProblem
  pub index : ℕ
  pub there : slice_get kept index ≡ Some one
  pub has : made_of one ≡ Some made

-- a moment is within the span: it is the problem's or a later one, up to the last
pub record IsInSpan (made : MadeProblem) (at : ℕ) : Type 0 where
  pub first : made.problem.at ≤ at
  pub last : at ≤ made.timed.until

-- over the network of its number, the table has the wagons' cells up to their last moments
abbrev pub IsLasting : Setting → MadeProblem → Type 0
IsLasting setting made = (network : NetworkValue) → network_at setting.networks made.network ≡ Some network → IsLastingTable network made.problem made.timed.cells made.timed.lasts.items

-- whether the table of a problem can be made by changing another's: it is of the same moment or a later one
abbrev pub IsChangeable : MadeProblem → ProblemValue → Type 0
IsChangeable made problem = made.problem.at ≤ problem.at

-- what kept problems of a version share: the problem of that version at a moment, and a table that is that version's at
-- each moment of the span
pub record IsMade (setting : Setting) (history : List Event) (version : ℕ) (made : MadeProblem) : Type 0 where
  pub is_problem : made.problem ≡ problem_at setting history version made.problem.at
  pub is_table : (m : ℕ) → IsInSpan made m → IsTableAt setting history version m made.timed.cells
  pub lasting : IsLasting setting made

-- what has the table of the problem of a version at a moment
pub record IsTabled (setting : Setting) (history : List Event) (version at : ℕ) (made : MadeProblem) : Type 0 where
  pub is_made : IsMade setting history version made
  pub in_span : IsInSpan made at

-- this is the number of the network in force in a version, and of one of the networks
pub record IsNetworkOf (setting : Setting) (history : List Event) (n number : ℕ) : Type 0 where
  pub in_force : (version setting history n).network ≡ number
  pub known : IsSome (network_at setting.networks number)

-- the problem is that of a version that the book has had, and so is its table, where one was made
pub record IsKeptAt (setting : Setting) (history : List Event) (kept : KeptProblem) : Type 0 where
  pub had : kept.version ≤ length history
  pub is_problem : kept.problem ≡ problem_at setting history kept.version kept.problem.at
  pub network : IsNetworkOf setting history kept.version kept.network
  pub made : IfSome (made_of kept) (IsTabled setting history kept.version kept.problem.at)

-- What every book keeps: its history is legal, and each kept problem is that of its version.
pub record IsBook (setting : Setting) (history : List Event) (kept : List KeptProblem) : Type 0 where
  pub legal : IsLegal setting history
  pub problems : All (IsKeptAt setting history) kept

-- what a book was given
abbrev pub setting_of : LedgerValue → List NetworkValue → LimitNumbers → Setting
setting_of ledger networks limits = setting_with ledger.first networks limits

abbrev pub book_of : LedgerValue → List NetworkValue → LimitNumbers → List KeptProblem → BookValue
book_of ledger networks limits kept = record {
  setting = setting_of ledger networks limits;
  state = record { history = ledger.events; kept = map which_of kept };
}

-- a book of these parts
pub record IsBookOf (ledger : LedgerValue) (networks : List NetworkValue) (limits : LimitNumbers) (kept : List KeptProblem) : Type 0 where
  pub counted : ledger.networks ≡ length networks
  pub book : IsBook (setting_of ledger networks limits) ledger.events kept

-- the book after a begin at a moment
abbrev pub begun_at : Setting → BookState → (at : ℕ) → BookState
begun_at setting book at = record book { kept = kept_after setting book.kept (length book.history, at) }

-- the kept problem of a version at a moment stands at this index
pub record IsIndexOfKept (kept : List (ℕ × ℕ)) (which : ℕ × ℕ) (index : ℕ) : Type 0 where
  pub is_among : is_kept kept which ≡ true
  pub there : slice_get kept index ≡ Some which
