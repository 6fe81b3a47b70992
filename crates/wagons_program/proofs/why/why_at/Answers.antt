use Rattle.std.proofs.Common.{Global, String, string_bytes}
use Rattle.std.specs.Prelude.{option_copied}
use Rattle.command_line.specs.declared.why_options.When.TheVariants.{At}
use Rattle.last_texts.specs.ReasonsOfLast.{AreReasonsOfLast}
use Rattle.wagons_program.specs.Reasoned.{AreReasonsFor}
use Rattle.wagons_program.specs.Streams.{streams}
use Rattle.wagons_program.proofs.Printed.{of_last}
use Rattle.wagons_program.proofs.why.why_at.Goals as goal

pub returns-clause-ok : goal.returns-clause-ok
returns-clause-ok g c =
    let options = c.args.options.now in
    let names = option_copied c.args.names in
    let book = c.in_ok-book.field-0.book in
    let brought = c.in_ok-book.ensures {u = tt} in
    let given = streams (g.I.Read.remaining c.args.input) (g.O.Write.contents c.args.output.now) (g.O.Write.contents c.print_last.new.output) in
    of_last (g.R.FileSystem.bytes_at c.args.rt.now) (λ (text : String Global). string_bytes text) options.office
    (λ book text. AreReasonsOfLast book.setting book.state.history c.args.at options names text) given
    c.in_ok-book.field-0.networks.items book c.in_ok-book.field-0.status c.last_reasons-text.result c.print_last.result
    (AreReasonsFor (g.R.FileSystem.bytes_at c.args.rt.now) options (At c.args.at) names given)
    brought.brought c.last_reasons-text.ensures.reasons c.print_last.ensures.ok c.print_last.ensures.printed (λ ended printed. printed)
