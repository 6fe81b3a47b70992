use Rattle.std.proofs.Common.{codes, refl, string_bytes}
use Rattle.std.proofs.lemmas.Str.{IsUtf8-string_bytes}
use Rattle.checkpoint.specs.LineWriting.{order_data}
use Rattle.checkpoint.specs.OrderLine.{line_of_row}
use Rattle.checkpoint.specs.declared.line.CheckpointLine.TheVariants.{Order}
use Rattle.checkpoint.proofs.LineReads.{line-reads, printed, IsPrinted}
use Rattle.checkpoint.proofs.Objects.{order_object}
use Rattle.checkpoint.proofs.OneLine.{order_one}
use Rattle.checkpoint.proofs.Short.{order_short}
use Rattle.checkpoint.proofs.OrderReads.{order_kind, order_nests, order_spells, order_typed}
use Rattle.checkpoint.proofs.lines.order_line.Goals as goal

written : (c : goal.After-written_text) → IsPrinted (order_data c.args.row.now (c.in_ok-write_order.ensures {u = tt}).tokens.latest) (string_bytes c.written_text.result)
written c =
    let added = (c.in_ok-write_order.ensures {u = tt}).tokens in
    printed (order_data c.args.row.now added.latest) c.new-out.result.tokens c.write_order.new.out.tokens (string_bytes c.written_text.result) c.new-out.ensures.tokens added.tokens c.written_text.ensures.text c.written_text.ensures.tokens

pub returns-clause-text : goal.returns-clause-text
returns-clause-text c =
    let added = (c.in_ok-write_order.ensures {u = tt}).tokens in
    record { latest = added.latest; moment = added.readable.0; text = (written c).text_is }

pub returns-clause-reads : goal.returns-clause-reads
returns-clause-reads c =
    let added = (c.in_ok-write_order.ensures {u = tt}).tokens in
    let row = c.args.row.now in
    line-reads (string_bytes c.written_text.result) (order_data row added.latest) (order_object row added.latest) (codes "order") (Order (line_of_row row)) (IsUtf8-string_bytes c.written_text.result)
    (written c).same (order_nests row added.latest) (order_spells row added.latest added.limits) refl (order_kind row added.latest)
    (order_typed row added.latest added.limits added.codes_read added.readable.1)

pub returns-clause-whole : goal.returns-clause-whole
returns-clause-whole c =
    let added = (c.in_ok-write_order.ensures {u = tt}).tokens in
    order_one c.args.row.now added.latest (string_bytes c.written_text.result) added.limits
    (order_short c.args.row.now added.latest added.limits added.valid added.codes_read added.readable) (written c).text_is
