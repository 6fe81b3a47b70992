use Rattle.std.proofs.Common.{codes, refl, string_bytes}
use Rattle.std.proofs.lemmas.Str.{IsUtf8-string_bytes}
use Rattle.checkpoint.specs.LineWriting.{end_data}
use Rattle.checkpoint.specs.declared.line.CheckpointLine.TheVariants.{End}
use Rattle.checkpoint.proofs.HeadReads.{end_kind, end_nests, end_spells, end_typed}
use Rattle.checkpoint.proofs.LineReads.{line-reads, printed, IsPrinted}
use Rattle.checkpoint.proofs.Objects.{end_object}
use Rattle.checkpoint.proofs.OneLine.{end_one}
use Rattle.checkpoint.proofs.Short.{end_short}
use Rattle.checkpoint.proofs.lines.end_line.Goals as goal

written : (c : goal.After-written_text) → IsPrinted (end_data c.args.lines) (string_bytes c.written_text.result)
written c =
    printed (end_data c.args.lines) c.new-out.result.tokens c.write_end.new.out.tokens (string_bytes c.written_text.result) c.new-out.ensures.tokens (c.in_ok-write_end.ensures {u = tt}).tokens c.written_text.ensures.text c.written_text.ensures.tokens

pub returns-clause-text : goal.returns-clause-text
returns-clause-text c = (written c).text_is

pub returns-clause-reads : goal.returns-clause-reads
returns-clause-reads c =
    let lines = c.args.lines in
    line-reads (string_bytes c.written_text.result) (end_data lines) (end_object lines) (codes "end") (End lines) (IsUtf8-string_bytes c.written_text.result)
    (written c).same (end_nests lines) (end_spells lines c.requires) refl (end_kind lines) (end_typed lines c.requires)

pub returns-clause-whole : goal.returns-clause-whole
returns-clause-whole c = end_one c.args.lines (string_bytes c.written_text.result) c.requires (end_short c.args.lines c.requires) (written c).text_is
