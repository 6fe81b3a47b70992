use Rattle.std.proofs.Common.{◌∷◌, subst}
use Rattle.std.specs.List.Sorted.{IsPermutation}
use Rattle.line_network.specs.inner.Steps.{line_from}
use Rattle.line_network.specs.inner.Turns.{Waiting, waiting_of, waits}
use Rattle.line_network.proofs.Numbering.{Relaxes-falls}
use Rattle.line_network.proofs.search.relax.Goals as goal

pub returns-in_ok-push : goal.returns-in_ok-push
returns-in_ok-push c =
    let P : Waiting → Type 0 = λ w. IsPermutation (w ∷ waits c.args.waiting.now) (waits c.push.new.self) in
    Relaxes-falls _ _ _ _ _ c.plus-way.result (line_from (waiting_of c.args.at).place c.args.step.now) (rw c.label.ensures at c.plus-way.ensures) c.requires.km c.requires.known c.if-falls_to.ensures (subst P c.new.ensures c.in_ok-push.ensures)
