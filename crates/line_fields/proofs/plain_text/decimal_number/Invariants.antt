use Rattle.std.proofs.Common.{◌≡◌, ◌≤◌, ◌<◌, ◌+◌, take, decimal}
use Rattle.line_fields.proofs.plain_text.decimal_number.Given as goal

-- the digits so far are those of the number, which is not zero
abbrev pub invariant-loop-digit : goal.invariant-loop-digit
invariant-loop-digit l = record {
  written : take (l.digit-index + 1) l.digits ≡ decimal l.number;
  some : 1 ≤ l.number;
  fits : l.number < 10_000_000_000_000_000_000;
}
