use Rattle.std.proofs.Common.{codes, refl, string_bytes}
use Rattle.std.proofs.lemmas.Str.{IsUtf8-string_bytes}
use Rattle.checkpoint.specs.LineWriting.{wagon_data}
use Rattle.checkpoint.specs.declared.line.CheckpointLine.TheVariants.{Wagon}
use Rattle.checkpoint.proofs.LineReads.{line-reads, printed, text_if_readable, IsPrinted}
use Rattle.checkpoint.proofs.OneLine.{wagon_one}
use Rattle.checkpoint.proofs.Short.{wagon_short}
use Rattle.checkpoint.proofs.Objects.{wagon_object}
use Rattle.checkpoint.proofs.WagonReads.{wagon_kind, wagon_nests, wagon_spells, wagon_typed}
use Rattle.checkpoint.proofs.lines.wagon_line.Goals as goal

written : (c : goal.After-written_text) → IsPrinted (wagon_data c.args.row.now (c.in_ok-write_wagon.ensures {u = tt}).tokens.ready (c.in_ok-write_wagon.ensures {u = tt}).tokens.last) (string_bytes c.written_text.result)
written c =
    let added = (c.in_ok-write_wagon.ensures {u = tt}).tokens in
    printed (wagon_data c.args.row.now added.ready added.last) c.new-out.result.tokens c.write_wagon.new.out.tokens (string_bytes c.written_text.result) c.new-out.ensures.tokens added.tokens c.written_text.ensures.text c.written_text.ensures.tokens

pub returns-clause-text : goal.returns-clause-text
returns-clause-text c =
    let added = (c.in_ok-write_wagon.ensures {u = tt}).tokens in
    record {
      ready = added.ready;
      last = added.last;
      ready_moment = text_if_readable _ _ added.ready_readable;
      last_moment = added.last_readable.0;
      text = (written c).text_is;
    }

pub returns-clause-reads : goal.returns-clause-reads
returns-clause-reads c =
    let added = (c.in_ok-write_wagon.ensures {u = tt}).tokens in
    let row = c.args.row.now in
    line-reads (string_bytes c.written_text.result) (wagon_data row added.ready added.last) (wagon_object row added.ready added.last) (codes "wagon") (Wagon row) (IsUtf8-string_bytes c.written_text.result)
    (written c).same (wagon_nests row added.ready added.last) (wagon_spells row added.ready added.last c.requires) refl (wagon_kind row added.ready added.last)
    (wagon_typed row added.ready added.last c.requires added.codes_read added.ready_readable added.last_readable.1)

pub returns-clause-whole : goal.returns-clause-whole
returns-clause-whole c =
    let added = (c.in_ok-write_wagon.ensures {u = tt}).tokens in
    wagon_one c.args.row.now added.ready added.last (string_bytes c.written_text.result) c.requires
    (wagon_short c.args.row.now added.ready added.last c.requires added.codes_read added.ready_readable added.last_readable) (written c).text_is
