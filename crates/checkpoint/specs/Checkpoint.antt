-- What a checkpoint is, in the subject's own words, apart from how it is read.
use Rattle.std.specs.Prelude.{◌≡◌, ℕ, true, not, List, [], ◌∷◌, ◌++◌, map, Ok}
use Rattle.std.specs.List.{filter, list_all}
use Rattle.line_engine.specs.Lines.{is_blank}
use Rattle.wagons_and_orders.specs.Lack.{is_open}
use Rattle.wagons_and_orders.specs.OrderRow.{OrderRowValue}
use Rattle.operating_db.specs.FirstOffice.{IsFirstOffice}
use Rattle.operating_db.specs.Office.{Office}
use Rattle.checkpoint.specs.LineReading.{checkpoint_line_of}
use Rattle.checkpoint.specs.OrderLine.{line_of_row}
use Rattle.checkpoint.specs.declared.line.CheckpointLine.{CheckpointLine}
use Rattle.checkpoint.specs.declared.line.CheckpointLine.TheVariants.{Head, Wagon, Order, End}
use Rattle.checkpoint.specs.Taking.{lines_before_last}

-- the lines that aren't blank
abbrev pub written_lines : List (List ℕ) → List (List ℕ)
written_lines lines = filter (λ line. not (is_blank line)) lines

-- an order as its line says it
abbrev pub order_said : OrderRowValue → CheckpointLine
order_said row = Order (line_of_row row)

-- what the lines of an office say: the head with its network; the rows of its wagons; its orders; and how many lines these are
abbrev pub lines_for : Office → List CheckpointLine
lines_for office =
    Head office.network ∷ (map Wagon office.wagons ++ (map order_said office.orders ++ End (lines_before_last office.wagons office.orders) ∷ []))

-- The lines of a file are those of an office where there are so many networks: but for blank ones, they are read as its lines,
-- one after the other; a book may begin with it; and all its orders are open.
pub record IsCheckpointOf (networks : ℕ) (lines : List (List ℕ)) (office : Office) : Type 0 where
  pub said : map checkpoint_line_of (written_lines lines) ≡ map Ok (lines_for office)
  pub first : IsFirstOffice networks office
  pub all_open : list_all is_open office.orders ≡ true
