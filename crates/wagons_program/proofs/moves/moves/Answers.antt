use Rattle.std.proofs.Common.{List, refl, subst, ℕ}
use Rattle.wagons_program.specs.Streams.{Prints, streams}
use Rattle.wagons_program.proofs.moves.moves.Goals as goal

pub returns-clause-ok : goal.returns-clause-ok
returns-clause-ok g c =
    let given = streams (g.I.Read.remaining c.args.input) (g.O.Write.contents c.args.output.now) (g.O.Write.contents c.write_whole.new.output) in
    record {
      named = c.in_ok-places.places;
      are_named = c.in_ok-places.ensures;
      zone = c.in_ok-zone.zone.bytes.items;
      is_zone = c.in_ok-zone.ensures.bytes;
      journal = c.in_ok-filled.filled;
      of_input = c.in_ok-filled.ensures;
      text = c.in_ok-text.field-0.items;
      shown = c.in_ok-text.ensures.moves;
      printed = subst (λ (text : List ℕ). Prints given text) c.deref.ensures.value c.in_ok-write_whole.ensures.written;
      status_is = refl;
    }
