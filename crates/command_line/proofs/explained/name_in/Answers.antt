use Rattle.std.proofs.Common.{None, Some, ap}
use Rattle.command_line.proofs.ExplainLemmas.{line_is, marks_end, number_ends}
use Rattle.command_line.proofs.explained.name_in.Goals as goal

pub returns-in_err-line : goal.returns-in_err-line
returns-in_err-line c = λ refusal has is. absurd (line_is refusal c.args.entry.now None has is c.in_err-line.ensures.cases)

pub returns-in_err-name : goal.returns-in_err-name
returns-in_err-name c = λ refusal has is.
    let line = line_is refusal c.args.entry.now (Some (c.in_ok-line.line, c.in_ok-line.field-0-1)) has is c.in_ok-line.ensures.cases in
    let marks = marks_end refusal c.in_ok-line.line.now (Some (c.in_ok-behind_hashes.field-0-0, c.in_ok-behind_hashes.behind_hashes)) line c.in_ok-behind_hashes.ensures.cases in
    absurd (number_ends refusal c.in_ok-behind_hashes.behind_hashes.now None has marks c.in_err-name.ensures.cases)

pub returns : goal.returns
returns c = λ refusal has is.
    let line = line_is refusal c.args.entry.now (Some (c.in_ok-line.line, c.in_ok-line.field-0-1)) has is c.in_ok-line.ensures.cases in
    let marks = marks_end refusal c.in_ok-line.line.now (Some (c.in_ok-behind_hashes.field-0-0, c.in_ok-behind_hashes.behind_hashes)) line c.in_ok-behind_hashes.ensures.cases in
    ap Some (number_ends refusal c.in_ok-behind_hashes.behind_hashes.now (Some (c.in_ok-name.field-0-0, c.in_ok-name.name)) has marks c.in_ok-name.ensures.cases)
