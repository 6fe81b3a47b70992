-- What is noted of an order that a line places, as text. The wagons are those of the office before the line.
use Rattle.std.specs.Prelude.{◌≡◌, ℕ, List, ◌++◌, codes, decimal}
use Rattle.std.specs.List.{flat_map}
use Rattle.move_messages.specs.Order.{Order}
use Rattle.wagons_and_orders.specs.declared.wagon_row.WagonRow.{WagonRow}
use Rattle.line_network.specs.Network.{NetworkValue}
use Rattle.place_names.specs.Names.{name_of, name_word}
use Rattle.place_names.specs.declared.named_place.NamedPlace.{NamedPlace}
use Rattle.reply_texts.specs.Words.{IsMomentWord, next_word}
use Rattle.journal_notes.specs.OrderNotes.{is_past, lacks_class, lacks_load, lacks_place}
use Rattle.office.specs.NoteText.{NotedIf, note, noted}

-- a place, and its name behind it where it has one
abbrev pub place_words : List NamedPlace → (place : List ℕ) → List ℕ
place_words named place = next_word place ++ name_word (name_of named place)

abbrev pub place_note : (line : ℕ) → List NetworkValue → List NamedPlace → Order → List ℕ
place_note line networks named order = noted (lacks_place networks order) (note line (codes "place") (next_word order.id ++ place_words named order.place))

-- each class that the order lists
abbrev pub class_note : (line : ℕ) → List WagonRow → Order → List ℕ
class_note line wagons order = noted (lacks_class wagons order) (note line (codes "class") (next_word order.id ++ flat_map next_word order.classes))

-- the load in kg
abbrev pub load_note : (line : ℕ) → List WagonRow → Order → List ℕ
load_note line wagons order = noted (lacks_load wagons order) (note line (codes "load") (next_word order.id ++ next_word (decimal order.load)))

pub record IsPastNote (line : ℕ) (order : Order) (text : List ℕ) : Type 0 where
  pub latest : List ℕ
  pub moment : IsMomentWord order.latest latest
  pub whole : text ≡ note line (codes "past") (next_word order.id ++ latest)

-- the notes of an order, in their order
pub record AreOrderNotes (line : ℕ) (networks : List NetworkValue) (named : List NamedPlace) (wagons : List WagonRow) (order : Order) (text : List ℕ) : Type 0 where
  pub past : List ℕ
  pub past_note : NotedIf (is_past wagons order) (IsPastNote line order) past
  pub whole : text ≡ place_note line networks named order ++ class_note line wagons order ++ load_note line wagons order ++ past
