use Rattle.std.proofs.Common.{◌++◌, ap, ◌∙◌, string_bytes}
use Rattle.std.proofs.lemmas.Str.{IsUtf8-string_bytes}
use Rattle.json.specs.Print.{print}
use Rattle.serde_json.proofs.Texts.{print-outline}
use Rattle.line_fields.specs.WrittenTokens.{data_tokens}
use Rattle.table_lines.specs.TableLine.{table_text}
use Rattle.table_lines.specs.UnplannedText.{unplanned_data}
use Rattle.table_lines.proofs.Unplanned.{unplanned_line_reads}
use Rattle.table_lines.proofs.unplanned_tokens.unplanned_line.Goals as goal

pub returns-clause-text : goal.returns-clause-text
returns-clause-text c =
    let d = unplanned_data (table_text c.args.table.now) in
    let written = (c.in_ok-write_unplanned.ensures {u = tt}).tokens ∙ ap (λ ts. ts ++ data_tokens d) c.new-out.ensures.tokens in
    c.written_text.ensures.text ∙ ap print written ∙ print-outline d

pub returns-clause-reads : goal.returns-clause-reads
returns-clause-reads c =
    let d = unplanned_data (table_text c.args.table.now) in
    let written = (c.in_ok-write_unplanned.ensures {u = tt}).tokens ∙ ap (λ ts. ts ++ data_tokens d) c.new-out.ensures.tokens in
    unplanned_line_reads c.args.table.now c.requires.limits (c.in_ok-write_unplanned.ensures {u = tt}).writable
    (string_bytes c.written_text.result) (IsUtf8-string_bytes c.written_text.result) (c.written_text.ensures.tokens ∙ written)
