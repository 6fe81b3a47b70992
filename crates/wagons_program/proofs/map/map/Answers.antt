use Rattle.std.proofs.Common.{Global, IfOk, String, string_bytes, subst}
use Rattle.last_texts.specs.MapOfLast.{IsMapOfLast}
use Rattle.office_map.specs.declared.choice.Choice.{Choice}
use Rattle.wagons_program.specs.OfLast.{IsMapPrinted}
use Rattle.wagons_program.specs.Streams.{streams}
use Rattle.wagons_program.proofs.Printed.{of_last}
use Rattle.wagons_program.proofs.map.map.Goals as goal

pub returns-clause-ok : goal.returns-clause-ok
returns-clause-ok g c =
    let options = c.args.options.now in
    let book = c.in_ok-book.field-0.book in
    let brought = c.in_ok-book.ensures {u = tt} in
    let chosen : Choice = record { busy = options.busy; order = options.order; class = options.class } in
    of_last (g.R.FileSystem.bytes_at c.args.rt.now) (λ (text : String Global). string_bytes text) options.office
    (λ book text. IsMapOfLast book.setting book.state.history c.in_ok-places.places chosen text)
    (streams (g.I.Read.remaining c.args.input) (g.O.Write.contents c.args.output.now) (g.O.Write.contents c.print_last.new.output))
    c.in_ok-book.field-0.networks.items book c.in_ok-book.field-0.status c.last_map-text.result c.print_last.result
    (IsMapPrinted (g.R.FileSystem.bytes_at c.args.rt.now) options (streams (g.I.Read.remaining c.args.input) (g.O.Write.contents c.args.output.now) (g.O.Write.contents c.print_last.new.output)))
    brought.brought
    (subst (λ (choice : Choice). IfOk c.last_map-text.result (λ text. IsMapOfLast book.setting book.state.history c.in_ok-places.places choice (string_bytes text)))
    c.choice_of.ensures c.last_map-text.ensures.map)
    c.print_last.ensures.ok c.print_last.ensures.printed (λ ended printed. (c.in_ok-places.places, c.in_ok-places.ensures, printed))
