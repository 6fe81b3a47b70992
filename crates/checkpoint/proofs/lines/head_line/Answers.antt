use Rattle.std.proofs.Common.{codes, refl, string_bytes}
use Rattle.std.proofs.lemmas.Str.{IsUtf8-string_bytes}
use Rattle.checkpoint.specs.LineWriting.{head_data}
use Rattle.checkpoint.specs.declared.line.CheckpointLine.TheVariants.{Head}
use Rattle.checkpoint.proofs.HeadReads.{head_kind, head_nests, head_spells, head_typed}
use Rattle.checkpoint.proofs.LineReads.{line-reads, printed, text_if_readable, IsPrinted}
use Rattle.checkpoint.proofs.Objects.{head_object}
use Rattle.checkpoint.proofs.OneLine.{head_one}
use Rattle.checkpoint.proofs.Short.{head_short}
use Rattle.checkpoint.proofs.lines.head_line.Goals as goal

written : (c : goal.After-written_text) → IsPrinted (head_data c.args.network (c.in_ok-write_head.ensures {u = tt}).tokens.newest_text) (string_bytes c.written_text.result)
written c =
    let added = (c.in_ok-write_head.ensures {u = tt}).tokens in
    printed (head_data c.args.network added.newest_text) c.new-out.result.tokens c.write_head.new.out.tokens (string_bytes c.written_text.result) c.new-out.ensures.tokens added.tokens c.written_text.ensures.text c.written_text.ensures.tokens

pub returns-clause-text : goal.returns-clause-text
returns-clause-text c =
    let added = (c.in_ok-write_head.ensures {u = tt}).tokens in
    record { newest_text = added.newest_text; moment = text_if_readable c.args.newest added.newest_text added.readable; text = (written c).text_is }

pub returns-clause-reads : goal.returns-clause-reads
returns-clause-reads c =
    let newest = (c.in_ok-write_head.ensures {u = tt}).tokens.newest_text in
    let network = c.args.network in
    line-reads (string_bytes c.written_text.result) (head_data network newest) (head_object network newest) (codes "checkpoint") (Head network) (IsUtf8-string_bytes c.written_text.result)
    (written c).same (head_nests network newest) (head_spells network newest c.requires.1) refl (head_kind network newest) (head_typed network newest c.requires)

pub returns-clause-whole : goal.returns-clause-whole
returns-clause-whole c =
    let added = (c.in_ok-write_head.ensures {u = tt}).tokens in
    head_one c.args.network added.newest_text (string_bytes c.written_text.result) c.requires.1 (head_short c.args.network c.args.newest added.newest_text c.requires.1 added.readable) (written c).text_is
