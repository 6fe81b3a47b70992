-- The line of an order is read as what its row says.
use Rattle.std.proofs.Common.{◌≡◌, ◌≤◌, ℕ, List, [], ◌∷◌, map, length, suc, Some, Ok, codes, refl, ap, arith}
use Rattle.std.specs.Prelude.{option_map}
use Rattle.std.proofs.lemmas.Bool.{le-leb}
use Rattle.json.specs.Tree.{depth}
use Rattle.serde_json.specs.Data.{item, string}
use Rattle.serde_json.specs.Events.{items_len}
use Rattle.serde_json.specs.Read.{of_items, of_json, max_depth}
use Rattle.serde_json.specs.View.{items_of}
use Rattle.serde_json.specs.Written.{items_outline, outline}
use Rattle.serde_json.proofs.Numbers.{number_of-decimal}
use Rattle.rail_codes.specs.Moment.{moment_of}
use Rattle.rail_codes.specs.ClassCode.{class_code_of}
use Rattle.rail_codes.specs.OrderId.{order_id_of}
use Rattle.rail_codes.specs.Place.{place_read}
use Rattle.rail_codes.specs.WagonNumber.{wagon_number_of}
use Rattle.move_messages.specs.Classes.{max_classes, IsClassList}
use Rattle.line_fields.specs.Commands.{classes_from, order_text_of}
use Rattle.line_fields.specs.declared.field.Field.TheVariants as field
use Rattle.line_fields.specs.Field.{field_name}
use Rattle.line_fields.specs.Fields.{member, field_of, optional_field_of}
use Rattle.move_messages.specs.OrderLimits.{IsOrder, max_order_wagons, max_penalty}
use Rattle.move_messages.specs.MaxLoad.{max_load}
use Rattle.line_fields.specs.Values.{class_from, each, list_of, list_of_each, list_within, text_of, wagon_number_from}
use Rattle.line_fields.proofs.Writing.{code-reads, list-reads, moment-reads, number_reads}
use Rattle.line_fields.specs.Written.{list_data}
use Rattle.wagons_and_orders.specs.OrderRow.{OrderRowValue}
use Rattle.checkpoint.specs.declared.line.CheckpointLine.TheVariants.{Order}
use Rattle.checkpoint.specs.LineReading.{line_of_type, order_line_of}
use Rattle.checkpoint.specs.LineWriting.{order_data}
use Rattle.checkpoint.specs.OrderLine.{line_of_row}
use Rattle.checkpoint.proofs.Objects.{order_object}
use Rattle.checkpoint.specs.inner.Readable.{AreClassesRead, AreNumbersRead, AreOrderCodes}

-- ---- lists of codes

pub texts_nest : (texts : List (List ℕ)) → depth (outline (list_data string texts)) ≤ 1
texts_nest [] = omega arith
texts_nest (t ∷ texts) = let more = texts_nest texts in omega arith

pub texts_spell : (texts : List (List ℕ)) → of_items (items_outline (items_of (map string texts))) ≡ Some (items_of (map string texts))
texts_spell [] = refl
texts_spell (t ∷ texts) = ap (option_map (item (string t))) (texts_spell texts)

pub order_nests : (row : OrderRowValue) (latest : List ℕ) → depth (outline (order_data row latest)) ≤ max_depth
order_nests row latest =
    let classes = texts_nest row.text.classes in
    let promised = texts_nest row.promised in
    let filled = texts_nest row.filled in
    omega arith

pub order_spells : (row : OrderRowValue) (latest : List ℕ) → IsOrder row.text → of_json (outline (order_data row latest)) ≡ Some (order_object row latest)
order_spells row latest limits =
    rw (
      texts_spell row.text.classes,
      texts_spell row.promised,
      texts_spell row.filled,
      number_of-decimal row.text.load (omega (arith, limits.0)),
      number_of-decimal row.text.penalty (omega (arith, limits.1)),
      number_of-decimal row.text.wagons (omega (arith, limits.3)),
    ) refl

-- ---- its fields

-- so many texts
texts_len : (texts : List (List ℕ)) → items_len (items_of (map string texts)) ≡ length texts
texts_len [] = refl
texts_len (t ∷ texts) = ap suc (texts_len texts)

numbers-read : (numbers : List (List ℕ)) → AreNumbersRead numbers → list_of_each wagon_number_from (list_data string numbers) ≡ Ok numbers
numbers-read numbers read = list-reads wagon_number_from string numbers (λ k d lt. code-reads wagon_number_of _ _ (read k d lt))

each_class : (classes : List (List ℕ)) → AreClassesRead classes → each class_from (items_of (map string classes)) ≡ Ok classes
unfolding list_of_each list_of
each_class classes read = list-reads class_from string classes (λ k d lt. code-reads class_code_of _ _ (read k d lt))

classes-read : (classes : List (List ℕ)) → IsClassList classes → AreClassesRead classes → classes_from (list_data string classes) ≡ Ok classes
unfolding classes_from list_within list_of
classes-read classes count read =
    rw (texts_len classes, le-leb 1 (length classes) count.0, le-leb (length classes) max_classes count.1) (each_class classes read)

text-reads : (row : OrderRowValue) (latest : List ℕ) → IsOrder row.text → AreOrderCodes row → moment_of latest ≡ Ok row.text.latest → order_text_of (order_object row latest) ≡ Ok row.text
unfolding order_text_of field_of member field_name optional_field_of
text-reads row latest limits said moment =
    rw (
      code-reads order_id_of row.text.id row.text.id said.id,
      code-reads place_read row.text.place row.text.place said.place,
      classes-read row.text.classes said.class_count said.classes,
      number_reads 0 max_load row.text.load (omega arith) limits.0,
      moment-reads latest row.text.latest moment,
      number_reads 0 max_penalty row.text.penalty (omega arith) limits.1,
      number_reads 1 max_order_wagons row.text.wagons limits.2 limits.3,
    ) refl

pub order-reads : (row : OrderRowValue) (latest : List ℕ) → IsOrder row.text → AreOrderCodes row → moment_of latest ≡ Ok row.text.latest → order_line_of (order_object row latest) ≡ Ok (line_of_row row)
unfolding order_line_of field_of member field_name
order-reads row latest limits said moment = rw (text-reads row latest limits said moment, numbers-read row.promised said.promised, numbers-read row.filled said.filled) refl

pub order_typed : (row : OrderRowValue) (latest : List ℕ) → IsOrder row.text → AreOrderCodes row → moment_of latest ≡ Ok row.text.latest → line_of_type (codes "order") (order_object row latest) ≡ Ok (Order (line_of_row row))
unfolding line_of_type
order_typed row latest limits said moment = rw (order-reads row latest limits said moment) refl

pub order_kind : (row : OrderRowValue) (latest : List ℕ) → field_of text_of field.TypeName (order_object row latest) ≡ Ok (codes "order")
unfolding field_of member field_name text_of
order_kind row latest = refl
