use Rattle.std.proofs.Common.{◌≡◌, ◌≤◌, drop}
use Rattle.std.specs.List.{count_by}
use Rattle.office.specs.LineNotes.{is_closing, is_opening, outside_texts}
use Rattle.office.specs.inner.Counted.{closed_with, opened_with}
use Rattle.office.specs.declared.brackets.Reading.TheVariants.{Outside}
use Rattle.office.proofs.brackets.is_left_open.Given as goal

abbrev pub invariant-loop-byte : goal.invariant-loop-byte
invariant-loop-byte l = record {
  opened : opened_with l.brackets (drop l.byte-index l.bytes) ≡ count_by is_opening (outside_texts Outside l.bytes);
  closed : closed_with l.brackets (drop l.byte-index l.bytes) ≡ count_by is_closing (outside_texts Outside l.bytes);
  few_opened : l.brackets.opened ≤ l.byte-index;
  few_closed : l.brackets.closed ≤ l.byte-index;
}
