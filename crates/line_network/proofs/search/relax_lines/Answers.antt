use Rattle.std.proofs.Common.{◌<◌, ◌≤◌, length, get_or, refl, subst, arith}
use Rattle.std.proofs.lemmas.List.Elements.{All-contains}
use Rattle.line_network.specs.NetworkLimits.{IsLine}
use Rattle.line_network.specs.declared.line.Line.{Line}
use Rattle.line_network.specs.declared.step.Step.{Step}
use Rattle.line_network.specs.inner.Steps.{step_along, line_from}
use Rattle.std.specs.List.{Contains}
use Rattle.line_network.specs.inner.Search.{label_at, plus_line, LabelAtMost}
use Rattle.line_network.specs.inner.Lengths.{known}
use Rattle.line_network.specs.inner.Turns.{waiting_of}
use Rattle.line_network.proofs.Numbering.{length_known, line_of_step}
use Rattle.line_network.proofs.Relaxing.{IsLineFrom-at, fits_km, fits_minutes, Improves-trans, Improves-Relaxes, label-Relaxes, AreBounded-Relaxes, LabelAtMost-Relaxes, relaxed_more}
use Rattle.line_network.proofs.search.relax_lines.Goals as goal

pub relax-requires-clause-known : goal.relax-requires-clause-known
relax-requires-clause-known c =
    let some_step : Step = record { to = 0; length = record { number = 0 } } in
    let own = rw c.place.ensures at c.from_place-step-items.ensures.own in
    let line = IsLineFrom-at _ _ (length c.args.labels.now) (waiting_of c.args.at).place c.loop-step.step-index some_step own c.requires.lines (omega arith) in
    omega (arith, line.is.to_known)

pub relax-requires-clause-km : goal.relax-requires-clause-km
relax-requires-clause-km c =
    let own = rw c.place.ensures at c.from_place-step-items.ensures.own in
    let line = IsLineFrom-at _ _ (length c.args.labels.now) (waiting_of c.args.at).place c.loop-step.step-index (record { to = 0; length = record { number = 0 } }) own c.requires.lines (omega arith) in
    fits_km _ _ (length c.args.labels.now) (waiting_of c.args.at).place _ _ c.loop-step.invariant.bounded c.loop-step.invariant.label (omega (arith, length_known c.loop-step.labels)) c.requires.few line

pub relax-requires-clause-minutes : goal.relax-requires-clause-minutes
relax-requires-clause-minutes c =
    let own = rw c.place.ensures at c.from_place-step-items.ensures.own in
    let line = IsLineFrom-at _ _ (length c.args.labels.now) (waiting_of c.args.at).place c.loop-step.step-index (record { to = 0; length = record { number = 0 } }) own c.requires.lines (omega arith) in
    fits_minutes _ _ (length c.args.labels.now) (waiting_of c.args.at).place _ _ c.loop-step.invariant.bounded c.loop-step.invariant.label (omega (arith, length_known c.loop-step.labels)) c.requires.few line

pub loop-step-preserved : goal.loop-step-preserved
loop-step-preserved c =
    let some_step : Step = record { to = 0; length = record { number = 0 } } in
    let own = rw c.place.ensures at c.from_place-step-items.ensures.own in
    let line = IsLineFrom-at _ _ (length c.args.labels.now) (waiting_of c.args.at).place c.loop-step.step-index some_step own c.requires.lines (omega arith) in
    let in_range : (get_or c.from_place-step-items.result.now c.loop-step.step-index some_step).to < length (known c.loop-step.labels) = omega (arith, line.is.to_known, length_known c.loop-step.labels) in
    let long : 1 ≤ (line_from (waiting_of c.args.at).place (get_or c.from_place-step-items.result.now c.loop-step.step-index some_step)).km = line.is.some_km in
    let relaxes = c.in_ok-relax.ensures in
    let bounded = c.loop-step.invariant.bounded in
    let label = c.loop-step.invariant.label in
    let improves = Improves-Relaxes _ _ _ _ _ (waiting_of c.args.at).place _ _ line.has line.from label in_range long
    (fits_km _ _ (length c.args.labels.now) (waiting_of c.args.at).place _ _ bounded label (omega (arith, length_known c.loop-step.labels)) c.requires.few line)
    (fits_minutes _ _ (length c.args.labels.now) (waiting_of c.args.at).place _ _ bounded label (omega (arith, length_known c.loop-step.labels)) c.requires.few line)
    relaxes in
    record {
      improves = Improves-trans _ _ _ _ _ _ _ c.loop-step.invariant.improves improves;
      bounded = AreBounded-Relaxes _ _ _ _ _ (waiting_of c.args.at).place _ _ line.has line.from label in_range long line.is.most_km line.is.most_minutes bounded relaxes;
      label = label-Relaxes _ _ _ _ _ (waiting_of c.args.at).place _ _ line.has line.from label in_range long relaxes;
      relaxed = relaxed_more _ _ _ (waiting_of c.args.at).place c.loop-step.step-index (waiting_of c.args.at).distance some_step (omega arith) improves.lower c.loop-step.invariant.relaxed
          (LabelAtMost-Relaxes _ _ _ _ _ (waiting_of c.args.at).place _ _ line.has line.from label in_range long relaxes);
    }

pub returns-clause-relaxed : goal.returns-clause-relaxed
returns-clause-relaxed c = λ l has from.
    let in_part : Contains c.from_place-step-items.result.now (step_along l) = c.from_place-step-items.ensures.complete l has (rw c.place.ensures from) in
    let P : Step → Type 0 = λ x. LabelAtMost (label_at (known c.loop-step.labels) x.to) (plus_line (waiting_of c.args.at).distance (line_from (waiting_of c.args.at).place x)) in
    let Q : Line → Type 0 = λ m. LabelAtMost (label_at (known c.loop-step.labels) m.to) (plus_line (waiting_of c.args.at).distance m) in
    let is = All-contains (IsLine (length c.args.labels.now)) _ l c.requires.lines has in
    subst Q (line_of_step (waiting_of c.args.at).place (step_along l) l refl from is.most_minutes) (subst P in_part.2 (c.loop-step.invariant.relaxed in_part.0 (step_along l) (omega arith) (omega arith)))
