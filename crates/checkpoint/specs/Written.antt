-- The text of a checkpoint.
use Rattle.std.specs.Prelude.{◌≡◌, ℕ, max, List, [], ◌∷◌, ◌++◌, Option, Some, None, fold}
use Rattle.line_engine.specs.Lines.{with_feeds}
use Rattle.wagons_and_orders.specs.declared.wagon_row.WagonRow.{WagonRow}
use Rattle.operating_db.specs.Compact.{compact}
use Rattle.operating_db.specs.Office.{Office}
use Rattle.checkpoint.specs.LineWriting.{IsEndLine, IsHeadLine, IsOrderLine, IsWagonLine}
use Rattle.checkpoint.specs.Taking.{lines_before_last}

-- the later of two moments
abbrev pub later_of : Option ℕ → ℕ → Option ℕ
later_of None moment = Some moment
later_of (Some newest) moment = Some (max newest moment)

-- the last moment at which any of the wagons was heard of
abbrev pub newest_of : List WagonRow → Option ℕ
newest_of rows = fold (λ newest row. later_of newest row.last) None rows

-- a line for each of these, in their order
abbrev pub AreLinesOf : {A : Type 0} → (A → List ℕ → Type 0) → List A → List (List ℕ) → Type 0
AreLinesOf {A} is_line [] [] = Unit {0}
AreLinesOf {A} is_line [] (line ∷ lines) = ⊥
AreLinesOf {A} is_line (x ∷ xs) [] = ⊥
AreLinesOf {A} is_line (x ∷ xs) (line ∷ lines) = is_line x line × AreLinesOf is_line xs lines

-- the head, a line for each wagon, one for each order, the last line, each with its line feed
pub record IsTextOf (office : Office) (text : List ℕ) : Type 0 where
  pub head : List ℕ
  pub wagons : List (List ℕ)
  pub orders : List (List ℕ)
  pub last : List ℕ
  pub is_head : IsHeadLine office.network (newest_of office.wagons) head
  pub are_wagons : AreLinesOf IsWagonLine office.wagons wagons
  pub are_orders : AreLinesOf IsOrderLine office.orders orders
  pub is_last : IsEndLine (lines_before_last office.wagons office.orders) last
  pub whole : text ≡ with_feeds (head ∷ (wagons ++ (orders ++ last ∷ [])))

-- the text of an office as it is written down: without its closed orders
abbrev pub IsCheckpointText : Office → (text : List ℕ) → Type 0
IsCheckpointText office text = IsTextOf (compact office) text
