-- The text of a refusal as one JSON object on a line of its own, with its line feed.
use Rattle.std.specs.Prelude.{ℕ, List, ◌++◌, codes, decimal}
use Rattle.table_lines.specs.TableRefusals.{table_refusal_number}
use Rattle.table_lines.specs.declared.table_refusal.TableRefusal.{TableRefusal}
use Rattle.table_lines.specs.TableDetails.{table_line_details}

-- what stands before the details: the line's number, and the number of the refusal
abbrev pub json_refused_head : (line number : ℕ) → List ℕ
json_refused_head line number = codes "{\"line\":" ++ decimal line ++ codes ",\"refused\":\"" ++ decimal number

-- a table line's refusal: `{"line":N,"refused":"CODE details"}`
abbrev pub json_refused_text : (line : ℕ) → TableRefusal → List ℕ
json_refused_text line refusal = json_refused_head line (table_refusal_number refusal) ++ table_line_details refusal ++ codes "\"}\n"
