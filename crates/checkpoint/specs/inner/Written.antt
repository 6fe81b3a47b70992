-- The tokens that were added to those of a writer.
use Rattle.std.specs.Prelude.{◌≡◌, ℕ, List, [], ◌∷◌, ◌++◌, Option, Some, None, Ok, codes}
use Rattle.json.specs.Token.{Token, begin_object, end_object}
use Rattle.serde_json.specs.Data.{boolean, string}
use Rattle.move_messages.specs.Classes.{IsClassList}
use Rattle.move_messages.specs.OrderLimits.{IsOrder}
use Rattle.line_fields.specs.Written.{list_data, number_data}
use Rattle.line_fields.specs.WrittenTokens.{data_tokens, member_tokens}
use Rattle.wagons_and_orders.specs.declared.wagon_row.WagonRow.{WagonRow}
use Rattle.wagons_and_orders.specs.OrderRow.{IsOrderRow, OrderRowValue}
use Rattle.wagons_and_orders.specs.StatusTable.{place_of}
use Rattle.wagons_and_orders.specs.StatusWords.{ready_moment, status_word}
use Rattle.checkpoint.specs.LineWriting.{end_data, head_data, order_data, wagon_data}
use Rattle.checkpoint.specs.inner.Readable.{AreOrderCodes, AreWagonCodes, IsPromiseRead, AreClassesRead, AreNumbersRead, IsReadableIfThere, IsReadableText}
use Rattle.rail_codes.specs.ClassCode.{class_code_of}
use Rattle.rail_codes.specs.OrderId.{order_id_of}
use Rattle.rail_codes.specs.Place.{place_read}
use Rattle.rail_codes.specs.WagonNumber.{wagon_number_of}

-- a member that is a text, where there is one
abbrev pub tokens_if_there : (name : List ℕ) → Option (List ℕ) → List Token
tokens_if_there name None = []
tokens_if_there name (Some text) = member_tokens name (string text)

-- a moment under a name
pub record AddsMoment (name : List ℕ) (seconds : ℕ) (old new : List Token) : Type 0 where
  pub text : List ℕ
  pub readable : IsReadableText seconds text
  pub tokens : new ≡ old ++ member_tokens name (string text)

-- a moment under a name, where there is one
pub record AddsMomentIfThere (name : List ℕ) (moment : Option ℕ) (old new : List Token) : Type 0 where
  pub text : Option (List ℕ)
  pub readable : IsReadableIfThere moment text
  pub tokens : new ≡ old ++ tokens_if_there name text

-- ---- the head and the last line

pub record AddsHead (network : ℕ) (newest : Option ℕ) (old new : List Token) : Type 0 where
  pub newest_text : Option (List ℕ)
  pub readable : IsReadableIfThere newest newest_text
  pub tokens : new ≡ old ++ data_tokens (head_data network newest_text)

abbrev pub AddsEnd : (lines : ℕ) → (old new : List Token) → Type 0
AddsEnd lines old new = new ≡ old ++ data_tokens (end_data lines)

-- ---- a wagon

abbrev pub wagon_front : WagonRow → List Token
wagon_front row =
    (begin_object ∷ member_tokens (codes "type") (string (codes "wagon")))
    ++ (member_tokens (codes "wagon") (string row.number)
    ++ (member_tokens (codes "class") (string row.class)
    ++ (member_tokens (codes "load") (number_data row.load_limit)
    ++ (member_tokens (codes "status") (string (status_word row.status))
    ++ member_tokens (codes "place") (string (place_of row.status))))))

abbrev pub wagon_back : WagonRow → (ready : Option (List ℕ)) → (last : List ℕ) → List Token
wagon_back row ready last =
    tokens_if_there (codes "ready") ready
    ++ (member_tokens (codes "last") (string last)
    ++ (member_tokens (codes "held") (boolean row.held)
    ++ (tokens_if_there (codes "promise") row.promise
    ++ end_object ∷ [])))

pub record AddsWagonFront (row : WagonRow) (old new : List Token) : Type 0 where
  pub number : wagon_number_of row.number ≡ Ok row.number
  pub class : class_code_of row.class ≡ Ok row.class
  pub place : place_read (place_of row.status) ≡ Ok (place_of row.status)
  pub tokens : new ≡ old ++ wagon_front row

pub record AddsWagonBack (row : WagonRow) (old new : List Token) : Type 0 where
  pub ready : Option (List ℕ)
  pub last : List ℕ
  pub ready_readable : IsReadableIfThere (ready_moment row.status) ready
  pub last_readable : IsReadableText row.last last
  pub promise : IsPromiseRead row.promise
  pub tokens : new ≡ old ++ wagon_back row ready last

pub record AddsWagon (row : WagonRow) (old new : List Token) : Type 0 where
  pub ready : Option (List ℕ)
  pub last : List ℕ
  pub ready_readable : IsReadableIfThere (ready_moment row.status) ready
  pub last_readable : IsReadableText row.last last
  pub codes_read : AreWagonCodes row
  pub tokens : new ≡ old ++ data_tokens (wagon_data row ready last)

-- ---- an order

abbrev pub order_front : OrderRowValue → List Token
order_front row =
    (begin_object ∷ member_tokens (codes "type") (string (codes "order")))
    ++ (member_tokens (codes "order") (string row.text.id)
    ++ (member_tokens (codes "place") (string row.text.place)
    ++ (member_tokens (codes "classes") (list_data string row.text.classes)
    ++ member_tokens (codes "load") (number_data row.text.load))))

abbrev pub order_back : OrderRowValue → (latest : List ℕ) → List Token
order_back row latest =
    member_tokens (codes "latest") (string latest)
    ++ (member_tokens (codes "penalty") (number_data row.text.penalty)
    ++ (member_tokens (codes "wagons") (number_data row.text.wagons)
    ++ (member_tokens (codes "promised") (list_data string row.promised)
    ++ (member_tokens (codes "filled") (list_data string row.filled)
    ++ end_object ∷ []))))

pub record AddsOrderFront (row : OrderRowValue) (old new : List Token) : Type 0 where
  pub id : order_id_of row.text.id ≡ Ok row.text.id
  pub place : place_read row.text.place ≡ Ok row.text.place
  pub classes : AreClassesRead row.text.classes
  pub class_count : IsClassList row.text.classes
  pub limits : IsOrder row.text
  pub tokens : new ≡ old ++ order_front row

pub record AddsOrderBack (row : OrderRowValue) (old new : List Token) : Type 0 where
  pub latest : List ℕ
  pub readable : IsReadableText row.text.latest latest
  pub promised : AreNumbersRead row.promised
  pub filled : AreNumbersRead row.filled
  pub valid : IsOrderRow row
  pub tokens : new ≡ old ++ order_back row latest

pub record AddsOrder (row : OrderRowValue) (old new : List Token) : Type 0 where
  pub latest : List ℕ
  pub readable : IsReadableText row.text.latest latest
  pub codes_read : AreOrderCodes row
  pub limits : IsOrder row.text
  pub valid : IsOrderRow row
  pub tokens : new ≡ old ++ data_tokens (order_data row latest)
