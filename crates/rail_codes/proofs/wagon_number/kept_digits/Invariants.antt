use Rattle.std.proofs.Common.{◌≡◌, ◌≤◌, true, ◌++◌, length, take, drop}
use Rattle.std.specs.List.{list_all}
use Rattle.std.specs.Char.{is_ascii_digit}
use Rattle.rail_codes.specs.WagonNumber.{kept_characters}
use Rattle.rail_codes.proofs.wagon_number.kept_digits.Given as goal

-- the digits so far and what is kept of the rest are what is kept of the text
abbrev pub invariant-loop-byte : goal.invariant-loop-byte
invariant-loop-byte l = record {
  room : (length l.digits ≡ 12) × (l.count ≤ 12);
  digits : list_all is_ascii_digit (take l.count l.digits) ≡ true;
  kept : take l.count l.digits ++ kept_characters (drop l.byte-index l.text) ≡ kept_characters l.text;
}
