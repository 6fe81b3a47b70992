use Rattle.std.proofs.Common.{ℕ, Global, IfOk, List, String, string_bytes, subst}
use Rattle.last_texts.specs.SavedOfLast.{IsSaved, added_rows, last_state}
use Rattle.wagons_program.specs.FirstLines.{input_upto}
use Rattle.wagons_program.specs.OfLast.{IsSavedPrinted}
use Rattle.wagons_program.specs.Streams.{streams}
use Rattle.wagons_program.proofs.Printed.{of_last}
use Rattle.wagons_program.proofs.save.save.Goals as goal

pub returns-clause-ok : goal.returns-clause-ok
returns-clause-ok g c =
    let options = c.args.options.now in
    let book = c.in_ok-book.field-0.book in
    of_last (g.R.FileSystem.bytes_at c.args.rt.now) (λ (text : String Global). string_bytes text) options.office
    (λ book text. IsSaved (last_state book.setting book.state.history) (added_rows c.in_ok-added.added) options.without.items text)
    (streams (input_upto options.upto (g.I.Read.remaining c.args.input)) (g.O.Write.contents c.args.output.now) (g.O.Write.contents c.print_last.new.output))
    c.in_ok-book.field-0.networks.items book c.in_ok-book.field-0.status c.last_saved-text.result c.print_last.result
    (IsSavedPrinted (g.R.FileSystem.bytes_at c.args.rt.now) options (streams (g.I.Read.remaining c.args.input) (g.O.Write.contents c.args.output.now) (g.O.Write.contents c.print_last.new.output)))
    c.in_ok-book.ensures
    (subst (λ (leaving : List (List ℕ)). IfOk c.last_saved-text.result (λ text. IsSaved (last_state book.setting book.state.history) (added_rows c.in_ok-added.added) leaving (string_bytes text)))
    c.deref.ensures.value c.last_saved-text.ensures.saved)
    c.print_last.ensures.ok c.print_last.ensures.printed (λ ended printed. (c.in_ok-added.added, c.in_ok-added.ensures, printed))
