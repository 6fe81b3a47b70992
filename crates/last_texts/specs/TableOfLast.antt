-- The table line of the problem of a history's last version at a moment.
use Rattle.std.specs.Prelude.{◌≡◌, ℕ, List, [], ◌∷◌, ◌++◌, length}
use Rattle.commit_book.specs.History.{IsTableAt, problem_at}
use Rattle.commit_book.specs.Setting.{Setting}
use Rattle.cost_table.specs.Names.{NameLists}
use Rattle.cost_table.specs.Problem.{names_of_problem}
use Rattle.cost_table.specs.Table.{Table}
use Rattle.move_messages.specs.declared.event.Event.{Event}
use Rattle.table_lines.specs.ProblemText.{StatesTable, text_of_table}
use Rattle.table_lines.specs.UnplannedText.{unplanned_text}

-- the names of the problem of the last version at a moment
abbrev pub last_names : Setting → List Event → (at : ℕ) → NameLists
last_names setting history at = names_of_problem (problem_at setting history (length history) at)

-- The line of the table of that problem, over the network in force in that version. It states that very table.
pub record IsTableOfLast (setting : Setting) (history : List Event) (at : ℕ) (line : List ℕ) : Type 0 where
  pub table : Table
  pub is_table : IsTableAt setting history (length history) at table
  pub text : line ≡ unplanned_text (text_of_table (last_names setting history at) table)
  pub states : StatesTable (last_names setting history at) table line

-- that line with its line feed
abbrev pub IsTableTextOfLast : Setting → List Event → (at : ℕ) → (text : List ℕ) → Type 0
IsTableTextOfLast setting history at text = (line : List ℕ) × IsTableOfLast setting history at line × (text ≡ line ++ 10 ∷ [])
