-- The lines of a checkpoint as they are written: compact JSON, the members in this order.
use Rattle.std.specs.Prelude.{◌≡◌, ℕ, false, List, Option, Some, None, codes}
use Rattle.serde_json.specs.Data.{Data, boolean, string, object, Members, no_members, member}
use Rattle.serde_json.specs.Written.{compact_text}
use Rattle.rail_codes.specs.Moment.{IsMomentText}
use Rattle.line_engine.specs.Lines.{IsWithin, has_feed, is_blank, max_line_bytes}
use Rattle.line_fields.specs.Written.{list_data, number_data}
use Rattle.wagons_and_orders.specs.declared.wagon_row.WagonRow.{WagonRow}
use Rattle.wagons_and_orders.specs.OrderRow.{OrderRowValue}
use Rattle.wagons_and_orders.specs.StatusTable.{place_of}
use Rattle.wagons_and_orders.specs.StatusWords.{ready_moment, status_word}
use Rattle.checkpoint.specs.Limits.{line_format}

-- a text under a name, and then the others; nothing where there is no text
abbrev pub text_if_there : (name : List ℕ) → Option (List ℕ) → Members → Members
text_if_there name None others = others
text_if_there name (Some text) others = member name (string text) others

-- the text of a moment, where there is a moment
abbrev pub IsTextIfThere : Option ℕ → Option (List ℕ) → Type 0
IsTextIfThere None None = Unit {0}
IsTextIfThere None (Some text) = ⊥
IsTextIfThere (Some seconds) None = ⊥
IsTextIfThere (Some seconds) (Some text) = IsMomentText seconds text

-- ---- the head

abbrev pub head_data : (network : ℕ) → (newest : Option (List ℕ)) → Data
head_data network newest =
    object (member (codes "type") (string (codes "checkpoint"))
    (member (codes "format") (number_data line_format)
    (member (codes "network") (number_data network)
    (text_if_there (codes "newest") newest no_members))))

pub record IsHeadLine (network : ℕ) (newest : Option ℕ) (line : List ℕ) : Type 0 where
  pub newest_text : Option (List ℕ)
  pub moment : IsTextIfThere newest newest_text
  pub text : line ≡ compact_text (head_data network newest_text)

-- ---- a wagon

abbrev pub wagon_data : WagonRow → (ready : Option (List ℕ)) → (last : List ℕ) → Data
wagon_data row ready last =
    object (member (codes "type") (string (codes "wagon"))
    (member (codes "wagon") (string row.number)
    (member (codes "class") (string row.class)
    (member (codes "load") (number_data row.load_limit)
    (member (codes "status") (string (status_word row.status))
    (member (codes "place") (string (place_of row.status))
    (text_if_there (codes "ready") ready
    (member (codes "last") (string last)
    (member (codes "held") (boolean row.held)
    (text_if_there (codes "promise") row.promise no_members))))))))))

pub record IsWagonLine (row : WagonRow) (line : List ℕ) : Type 0 where
  pub ready : Option (List ℕ)
  pub last : List ℕ
  pub ready_moment : IsTextIfThere (ready_moment row.status) ready
  pub last_moment : IsMomentText row.last last
  pub text : line ≡ compact_text (wagon_data row ready last)

-- ---- an order

abbrev pub order_data : OrderRowValue → (latest : List ℕ) → Data
order_data row latest =
    object (member (codes "type") (string (codes "order"))
    (member (codes "order") (string row.text.id)
    (member (codes "place") (string row.text.place)
    (member (codes "classes") (list_data string row.text.classes)
    (member (codes "load") (number_data row.text.load)
    (member (codes "latest") (string latest)
    (member (codes "penalty") (number_data row.text.penalty)
    (member (codes "wagons") (number_data row.text.wagons)
    (member (codes "promised") (list_data string row.promised)
    (member (codes "filled") (list_data string row.filled) no_members))))))))))

pub record IsOrderLine (row : OrderRowValue) (line : List ℕ) : Type 0 where
  pub latest : List ℕ
  pub moment : IsMomentText row.text.latest latest
  pub text : line ≡ compact_text (order_data row latest)

-- ---- the last line

abbrev pub end_data : (lines : ℕ) → Data
end_data lines = object (member (codes "type") (string (codes "end")) (member (codes "lines") (number_data lines) no_members))

abbrev pub IsEndLine : (lines : ℕ) → List ℕ → Type 0
IsEndLine lines line = line ≡ compact_text (end_data lines)

-- ---- every line

-- it has no line feed, isn't blank, and has at most 65,536 bytes, so it is read as one line of a file
abbrev pub IsOneLine : List ℕ → Type 0
IsOneLine line = (has_feed line ≡ false) × (is_blank line ≡ false) × IsWithin max_line_bytes line
