use Rattle.std.proofs.Common.{◌≡◌, ◌<◌, ◌^◌, take, true}
use Rattle.std.specs.List.{list_all}
use Rattle.std.specs.Char.{is_ascii_digit}
use Rattle.csv_records.specs.Fields.{spelled_number}
use Rattle.csv_records.proofs.fields.read_digits.Given as goal

abbrev pub invariant-loop-digit : goal.invariant-loop-digit
invariant-loop-digit l = record {
  digits : list_all is_ascii_digit (take l.digit-index l.field) ≡ true;
  spelled : l.number ≡ spelled_number (take l.digit-index l.field);
  small : l.number < 10 ^ l.digit-index;
}
