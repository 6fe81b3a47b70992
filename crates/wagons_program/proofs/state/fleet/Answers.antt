use Rattle.std.proofs.Common.{List, refl, subst, ℕ}
use Rattle.wagons_program.specs.Streams.{Prints, streams}
use Rattle.wagons_program.proofs.state.fleet.Goals as goal

pub returns-clause-ok : goal.returns-clause-ok
returns-clause-ok g c =
    let shown = c.in_ok-book.ensures {u = tt} in
    let (networks, refused, brought) = shown.brought in
    let given = streams (g.I.Read.remaining c.args.input) (g.O.Write.contents c.args.output.now) (g.O.Write.contents c.write_whole.new.output) in (
      c.in_ok-book.field-0.places,
      shown.places,
      c.in_ok-book.field-0.zone.bytes.items,
      shown.bytes,
      record {
        networks = networks;
        book = c.in_ok-book.field-0.book;
        refused = refused;
        brought = brought;
        text = c.in_ok-text.field-0.items;
        is_text = c.in_ok-text.ensures.fleet;
        printed = subst (λ (text : List ℕ). Prints given text) c.deref.ensures.value c.in_ok-write_whole.ensures.written;
        status_is = refl;
      },
    )
