-- Messages that are read in one pass: their text, the object that it spells, and the command that this is.
use Rattle.std.proofs.Common.{◌≡◌, ℕ, ◌<◌, ◌^◌, ◌-◌, List, ◌∷◌, ◌++◌, Ok, Some, codes, decimal, refl, ap, ◌∙◌, arith, true, nat_le}
use Rattle.std.specs.Str.{IsUtf8}
use Rattle.std.proofs.lemmas.Bool.Decides.{nat_tests}
use Rattle.json.specs.Print.{quoted, print, print_from, escape_byte}
use Rattle.json.specs.Tree.{json_tokens}
use Rattle.json.proofs.Printed.Decimals.{IsNumber-decimal}
use Rattle.serde_json.proofs.Numbers.{number_of-decimal}
use Rattle.serde_json.specs.Read.{read}
use Rattle.line_fields.specs.Line.{object_of}
use Rattle.line_fields.specs.Fields.{field_of, member}
use Rattle.line_fields.specs.Field.{field_name}
use Rattle.line_fields.specs.Values.{text_of, number_within, code_from}
use Rattle.line_fields.proofs.PlainTexts.{read-print}
use Rattle.line_fields.proofs.Lines.{object_of-ok}
use Rattle.rail_codes.specs.Company.{company_of}
use Rattle.rail_codes.specs.WagonNumber.{wagon_number_of}
use Rattle.rail_codes.specs.Place.{place_read}
use Rattle.rail_codes.specs.Moment.{moment_of}
use Rattle.line_fields.specs.Commands.{command_of, message_of}
use Rattle.line_fields.specs.declared.command.Command.TheVariants.{Event}
use Rattle.move_messages.specs.declared.event.Event.TheVariants.{Message}
use Rattle.move_messages.specs.declared.message.MessageKind.{MessageKind}
use Rattle.line_fields.specs.declared.plain_message.PlainMessage.{PlainMessage}
use Rattle.line_fields.specs.inner.PlainMessage.{IsTypeOf, plain_json, plain_object}

-- the parts that were taken off one after the other are the text
pub text-parts : (m : PlainMessage) (t0 t1 t2 t3 t4 t5 t6 : List ℕ)
    → t0 ≡ codes "{\"type\":" ++ (quoted m.type_name.now ++ t1) → t1 ≡ codes ",\"company\":" ++ (quoted m.company.now ++ t2)
    → t2 ≡ codes ",\"number\":" ++ (decimal m.number ++ 44 ∷ t3) → t3 ≡ codes "\"wagon\":" ++ (quoted m.wagon.now ++ t4)
    → t4 ≡ codes ",\"place\":" ++ (quoted m.place.now ++ t5) → t5 ≡ codes ",\"moment\":" ++ (quoted m.moment.now ++ t6)
    → t6 ≡ codes "}" → t0 ≡ print (json_tokens (plain_json m))
unfolding print_from escape_byte
text-parts m t0 t1 t2 t3 t4 t5 t6 e0 e1 e2 e3 e4 e5 e6 = rw (e0, e1, e2, e3, e4, e5, e6) refl

-- the text is read as the object
read-plain : (m : PlainMessage) → m.number < 2 ^ 32 → read (print (json_tokens (plain_json m))) ≡ Some (plain_object m)
read-plain m small =
    let digits = IsNumber-decimal m.number (omega arith) in
    let value = number_of-decimal m.number (omega arith) in
    read-print (plain_json m) (plain_object m) (tt, (tt, (digits, (tt, (tt, (tt, tt)))))) (omega arith) (rw value refl)

pub object_of-plain : (m : PlainMessage) (line : List ℕ) → m.number < 2 ^ 32 → IsUtf8 line → line ≡ print (json_tokens (plain_json m)) → object_of line ≡ Ok (plain_object m)
object_of-plain m line small utf8 is = object_of-ok line (plain_object m) utf8 (ap read is ∙ read-plain m small) refl

-- the fields of the object
message_of-plain : (m : PlainMessage) (kind : MessageKind) (company wagon place : List ℕ) (moment : ℕ) → m.number < 2 ^ 32
    → company_of m.company.now ≡ Ok company → wagon_number_of m.wagon.now ≡ Ok wagon → place_read m.place.now ≡ Ok place → moment_of m.moment.now ≡ Ok moment
    → message_of kind (plain_object m) ≡ Ok (record { id = record { company = company; number = m.number }; kind = kind; wagon = wagon; place = place; moment = moment })
unfolding message_of field_of member field_name text_of number_within code_from
message_of-plain m kind company wagon place moment small is_company is_wagon is_place is_moment =
    let least : nat_le 0 m.number ≡ true = grind (arith, nat_tests) in
    let most : nat_le m.number (2 ^ 32 - 1) ≡ true = grind (arith, nat_tests) in
    rw (is_company, least, most, is_wagon, is_place, is_moment) refl

pub command_of-plain : (m : PlainMessage) (kind : MessageKind) (company wagon place : List ℕ) (moment : ℕ) → m.number < 2 ^ 32 → IsTypeOf m.type_name.now kind
    → company_of m.company.now ≡ Ok company → wagon_number_of m.wagon.now ≡ Ok wagon → place_read m.place.now ≡ Ok place → moment_of m.moment.now ≡ Ok moment
    → (line : List ℕ) → object_of line ≡ Ok (plain_object m)
    → command_of line ≡ Ok (Event (Message (record { id = record { company = company; number = m.number }; kind = kind; wagon = wagon; place = place; moment = moment })))
unfolding command_of field_of member field_name text_of
command_of-plain m kind company wagon place moment small type_is is_company is_wagon is_place is_moment line object =
    let fields = message_of-plain m kind company wagon place moment small is_company is_wagon is_place is_moment in
    let type_object = type_is.2 (plain_object m) in
    rw (object, type_is.1, type_object, fields) refl
