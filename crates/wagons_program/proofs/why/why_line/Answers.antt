use Rattle.std.proofs.Common.{List, refl, string_bytes, subst, ℕ}
use Rattle.wagons_program.specs.Streams.{Prints, streams}
use Rattle.wagons_program.proofs.why.why_line.Goals as goal

pub returns-clause-ok : goal.returns-clause-ok
returns-clause-ok g c =
    let given = streams (g.I.Read.remaining c.args.input) (g.O.Write.contents c.args.output.now) (g.O.Write.contents c.print_whole.new.output) in
    record {
      plan = c.in_ok-plan.plan;
      of_line = c.in_ok-plan.ensures;
      text = string_bytes c.in_ok-text.text;
      is_text = c.in_ok-text.ensures.reasons;
      printed = subst (λ (text : List ℕ). Prints given text) c.deref.ensures c.in_ok-print_whole.ensures.written;
      status_is = refl;
    }
