-- What a run replies to the lines of tables that are to be solved.
use Rattle.std.specs.Prelude.{◌≡◌, ◌<◌, ◌⊎◌, ℕ, Bool, true, false, List, [], ◌∷◌, ◌++◌, length, Result, Ok, Err}
use Rattle.line_engine.specs.Lines.{IsWithin}
use Rattle.line_engine.specs.Replies.{Replying}
use Rattle.table_lines.specs.JsonReplies.{json_refused_text}
use Rattle.table_lines.specs.StatedTable.{stated_line}
use Rattle.table_lines.specs.TableCost.{IsCertified, cost_of_line}
use Rattle.table_lines.specs.TableLine.{TableText, table_line_of, with_plan}
use Rattle.table_lines.specs.declared.table_refusal.TableRefusal.{TableRefusal}
use Rattle.table_lines.specs.declared.table_refusal.TableRefusal.TheVariants.{OutOfMemory, PlanTooLong}
use Rattle.table_lines.specs.SolvedText.{solved_text}

-- The text of a table with some plan and prices that are a certificate of it: an optimal plan. It reads as the same table
-- with that plan and those prices, and the check of it answers the cost that is printed.
pub record IsSolved (t : TableText) (text : List ℕ) : Type 0 where
  pub pairs : List (List ℕ × List ℕ)
  pub u : List ℕ
  pub v : List ℕ
  pub cost : ℕ
  pub whole : text ≡ solved_text (with_plan t pairs u v) cost
  pub reads : table_line_of text ≡ Ok (with_plan t pairs u v)
  pub certified : IsCertified (with_plan t pairs u v) cost
  pub checked : cost_of_line text ≡ Ok cost

-- the reply to line number n with a solved table: its line, where a line may have so many bytes, else the refusal for that
abbrev pub PrintsSolved : (n most : ℕ) → (line : List ℕ) → (text : List ℕ) → (refused : Bool) → Type 0
PrintsSolved n most line text refused =
    (IsWithin most line × (text ≡ line ++ 10 ∷ []) × (refused ≡ false))
    ⊎ ((most < length line) × (text ≡ json_refused_text n PlanTooLong) × (refused ≡ true))

-- the reply to line number n, where lines have so many bytes at most: the solved table, or why there is none
abbrev pub Solves : (n most : ℕ) → Result TableText TableRefusal → (text : List ℕ) → (refused : Bool) → Type 0
Solves n most (Ok t) text refused = (line : List ℕ) × IsSolved t line × PrintsSolved n most line text refused
Solves n most (Err refusal) text refused = (text ≡ json_refused_text n refusal) × (refused ≡ true)

-- The reply to line number n, which isn't blank. It may be that memory was refused. The state is the most bytes of a line,
-- and stays as it was.
abbrev pub SolvesLine : ℕ → (old : ℕ) → List ℕ → List ℕ → Bool → (new : ℕ) → Type 0
SolvesLine n old line text refused new =
    (Solves n old (stated_line line) text refused ⊎ ((text ≡ json_refused_text n OutOfMemory) × (refused ≡ true))) × (new ≡ old)

-- the replies to table lines that are to be planned
abbrev pub ToTables : Replying ℕ
ToTables = SolvesLine
