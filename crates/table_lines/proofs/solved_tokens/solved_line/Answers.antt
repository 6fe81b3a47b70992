use Rattle.std.proofs.Common.{◌++◌, ap, ◌∙◌, string_bytes, arith}
use Rattle.std.proofs.lemmas.Str.{IsUtf8-string_bytes}
use Rattle.json.specs.Print.{print}
use Rattle.serde_json.proofs.Texts.{print-outline}
use Rattle.line_fields.specs.WrittenTokens.{data_tokens}
use Rattle.table_lines.specs.SolvedText.{planned_table, solved_data}
use Rattle.table_lines.proofs.Written.{planned_line_reads}
use Rattle.table_lines.proofs.solved_tokens.solved_line.Goals as goal

pub returns-clause-text : goal.returns-clause-text
returns-clause-text c =
    let d = solved_data (planned_table c.args.table.now c.args.pairs.now c.args.prices.now) c.args.cost in
    let written = (c.in_ok-write_solved.ensures {u = tt}).tokens ∙ ap (λ ts. ts ++ data_tokens d) c.new-out.ensures.tokens in
    c.written_text.ensures.text ∙ ap print written ∙ print-outline d

pub returns-clause-reads : goal.returns-clause-reads
returns-clause-reads c =
    let d = solved_data (planned_table c.args.table.now c.args.pairs.now c.args.prices.now) c.args.cost in
    let written = (c.in_ok-write_solved.ensures {u = tt}).tokens ∙ ap (λ ts. ts ++ data_tokens d) c.new-out.ensures.tokens in
    planned_line_reads c.args.table.now c.args.pairs.now c.args.prices.now c.args.cost c.requires.limits (c.in_ok-write_solved.ensures {u = tt}).writable
    (string_bytes c.written_text.result) (omega (arith, c.ranges.cost)) (IsUtf8-string_bytes c.written_text.result) (c.written_text.ensures.tokens ∙ written)
