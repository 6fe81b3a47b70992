-- The parts of the lines of a sheet, before and behind the text of their moment.
use Rattle.std.specs.Prelude.{ℕ, List, ◌∷◌, [], ◌++◌, codes, decimal}
use Rattle.wagons_and_orders.specs.StatusTable.{place_of}
use Rattle.wagons_and_orders.specs.StatusWords.{status_word}
use Rattle.wagons_and_orders.specs.declared.wagon_row.WagonRow.{WagonRow}
use Rattle.wagons_and_orders.specs.States.{state_of}
use Rattle.wagons_and_orders.specs.OrderRow.{OrderRowValue}
use Rattle.dispatch_sheet.specs.Sheet.{hold_word, list_word, listed_wagons, promise_word, state_word}
use Rattle.reply_texts.specs.Words.{next_word}

abbrev pub wagon_front : WagonRow → List ℕ
wagon_front row =
    codes "wagon" ++ next_word row.number ++ next_word row.class ++ next_word (decimal row.load_limit)
    ++ next_word (status_word row.status) ++ next_word (place_of row.status)

abbrev pub wagon_back : WagonRow → List ℕ
wagon_back row = next_word (hold_word row.held) ++ next_word (promise_word row.promise) ++ 10 ∷ []

abbrev pub order_front : OrderRowValue → List ℕ
order_front row = codes "order" ++ next_word row.text.id ++ next_word row.text.place

abbrev pub order_back : OrderRowValue → List ℕ
order_back row =
    next_word (decimal row.text.penalty) ++ next_word (state_word (state_of row)) ++ next_word (decimal row.text.wagons)
    ++ next_word (list_word (listed_wagons row)) ++ 10 ∷ []
