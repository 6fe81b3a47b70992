-- The head and the last line are read as what they were made of.
use Rattle.std.proofs.Common.{◌≡◌, ◌≤◌, ℕ, List, Option, Some, None, Ok, codes, refl, arith}
use Rattle.json.specs.Tree.{depth}
use Rattle.serde_json.specs.Read.{of_json, max_depth}
use Rattle.serde_json.specs.Written.{outline}
use Rattle.serde_json.proofs.Numbers.{number_of-decimal}
use Rattle.line_fields.specs.Commands.{max_revision}
use Rattle.line_fields.specs.declared.field.Field.TheVariants as field
use Rattle.line_fields.specs.Field.{field_name}
use Rattle.line_fields.specs.Fields.{member, field_of}
use Rattle.line_fields.specs.Values.{text_of}
use Rattle.line_fields.proofs.Writing.{number_reads}
use Rattle.checkpoint.specs.Limits.{IsNetworkNumber, line_format, max_lines}
use Rattle.checkpoint.specs.declared.line.CheckpointLine.TheVariants.{End, Head}
use Rattle.checkpoint.specs.LineReading.{end_of, head_of, line_of_type}
use Rattle.checkpoint.specs.LineWriting.{end_data, head_data}
use Rattle.checkpoint.proofs.Objects.{end_object, head_object}

pub head_spells : (network : ℕ) (newest : Option (List ℕ)) → network ≤ max_revision → of_json (outline (head_data network newest)) ≡ Some (head_object network newest)
head_spells network None small = rw (number_of-decimal line_format (omega arith), number_of-decimal network (omega (arith, small))) refl
head_spells network (Some text) small = rw (number_of-decimal line_format (omega arith), number_of-decimal network (omega (arith, small))) refl

pub head_nests : (network : ℕ) (newest : Option (List ℕ)) → depth (outline (head_data network newest)) ≤ max_depth
head_nests network None = omega arith
head_nests network (Some text) = omega arith

pub head-reads : (network : ℕ) (newest : Option (List ℕ)) → IsNetworkNumber network → head_of (head_object network newest) ≡ Ok network
unfolding head_of field_of member field_name
head-reads network None range =
    rw (number_reads line_format line_format line_format (omega arith) (omega arith), number_reads 1 max_revision network range.0 range.1) refl
head-reads network (Some text) range =
    rw (number_reads line_format line_format line_format (omega arith) (omega arith), number_reads 1 max_revision network range.0 range.1) refl

-- ---- the last line

pub end_spells : (lines : ℕ) → lines ≤ max_lines → of_json (outline (end_data lines)) ≡ Some (end_object lines)
end_spells lines small = rw (number_of-decimal lines (omega (arith, small))) refl

pub end_nests : (lines : ℕ) → depth (outline (end_data lines)) ≤ max_depth
end_nests lines = omega arith

pub end-reads : (lines : ℕ) → lines ≤ max_lines → end_of (end_object lines) ≡ Ok lines
unfolding end_of field_of member field_name
end-reads lines small = rw (number_reads 0 max_lines lines (omega arith) small) refl

-- ---- their types

pub head_typed : (network : ℕ) (newest : Option (List ℕ)) → IsNetworkNumber network → line_of_type (codes "checkpoint") (head_object network newest) ≡ Ok (Head network)
unfolding line_of_type
head_typed network newest range = rw (head-reads network newest range) refl

pub end_typed : (lines : ℕ) → lines ≤ max_lines → line_of_type (codes "end") (end_object lines) ≡ Ok (End lines)
unfolding line_of_type
end_typed lines small = rw (end-reads lines small) refl

pub head_kind : (network : ℕ) (newest : Option (List ℕ)) → field_of text_of field.TypeName (head_object network newest) ≡ Ok (codes "checkpoint")
unfolding field_of member field_name text_of
head_kind network None = refl
head_kind network (Some text) = refl

pub end_kind : (lines : ℕ) → field_of text_of field.TypeName (end_object lines) ≡ Ok (codes "end")
unfolding field_of member field_name text_of
end_kind lines = refl
