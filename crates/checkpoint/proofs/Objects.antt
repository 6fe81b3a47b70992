-- The objects that the lines spell, their members ascending by name.
use Rattle.std.proofs.Common.{ℕ, List, Option, codes}
use Rattle.serde_json.specs.Data.{Data, boolean, string, object, no_members, member}
use Rattle.line_fields.specs.Written.{list_data, number_data}
use Rattle.wagons_and_orders.specs.declared.wagon_row.WagonRow.{WagonRow}
use Rattle.wagons_and_orders.specs.OrderRow.{OrderRowValue}
use Rattle.wagons_and_orders.specs.StatusTable.{place_of}
use Rattle.wagons_and_orders.specs.StatusWords.{status_word}
use Rattle.checkpoint.specs.Limits.{line_format}
use Rattle.checkpoint.specs.LineWriting.{text_if_there}

abbrev pub head_object : ℕ → Option (List ℕ) → Data
head_object network newest =
    object (member (codes "format") (number_data line_format) (member (codes "network") (number_data network)
    (text_if_there (codes "newest") newest (member (codes "type") (string (codes "checkpoint")) no_members))))

abbrev pub wagon_object : WagonRow → (ready : Option (List ℕ)) → (last : List ℕ) → Data
wagon_object row ready last =
    object (member (codes "class") (string row.class)
    (member (codes "held") (boolean row.held)
    (member (codes "last") (string last)
    (member (codes "load") (number_data row.load_limit)
    (member (codes "place") (string (place_of row.status))
    (text_if_there (codes "promise") row.promise
    (text_if_there (codes "ready") ready
    (member (codes "status") (string (status_word row.status))
    (member (codes "type") (string (codes "wagon"))
    (member (codes "wagon") (string row.number) no_members))))))))))

abbrev pub order_object : OrderRowValue → (latest : List ℕ) → Data
order_object row latest =
    object (member (codes "classes") (list_data string row.text.classes)
    (member (codes "filled") (list_data string row.filled)
    (member (codes "latest") (string latest)
    (member (codes "load") (number_data row.text.load)
    (member (codes "order") (string row.text.id)
    (member (codes "penalty") (number_data row.text.penalty)
    (member (codes "place") (string row.text.place)
    (member (codes "promised") (list_data string row.promised)
    (member (codes "type") (string (codes "order"))
    (member (codes "wagons") (number_data row.text.wagons) no_members))))))))))

abbrev pub end_object : ℕ → Data
end_object lines = object (member (codes "lines") (number_data lines) (member (codes "type") (string (codes "end")) no_members))
