use Rattle.std.proofs.Common.{◌≡◌, ◌∙◌, ap, arith, false, length, map, refl}
use Rattle.std.proofs.lemmas.List.Elements.{All-rest}
use Rattle.sessions.specs.Seat.{count_of}
use Rattle.sessions.specs.inner.Fed.{handed_to}
use Rattle.sessions.proofs.Handles.{handed_on, head_of_all}
use Rattle.sessions.proofs.feeding.started.Goals as goal

pub spawn_with-requires-clause-runs : goal.spawn_with-requires-clause-runs
spawn_with-requires-clause-runs g c κs within = (
  head_of_all (λ reader. g.R.Source.has_failed reader ≡ false) c.in-Some.reader _ _ c.in-Some.ensures.steps.0 c.loop-reader.invariant.fresh,
  (head_of_all (λ seat. count_of seat ≡ 0) c.in-Some-next.seat _ _ c.in-Some-next.ensures.items c.loop-reader.invariant.new, c.requires.over),
)

pub loop-reader-preserved : goal.loop-reader-preserved
loop-reader-preserved g c = record {
  readers = handed_on (λ handle. handed_to handle.promise) _ _ c.in-Ok.handle c.in-Some.reader _ _ _ c.push_reserved.ensures.items
      (ap handed_to c.in-Ok.ensures.ok ∙ c.of.ensures) c.in-Some.ensures.steps.0 c.loop-reader.invariant.readers;
  fresh = All-rest (λ reader. g.R.Source.has_failed reader ≡ false) c.in-Some.reader _ _ c.in-Some.ensures.steps.0 c.loop-reader.invariant.fresh;
  new = All-rest (λ seat. count_of seat ≡ 0) c.in-Some-next.seat _ _ c.in-Some-next.ensures.items c.loop-reader.invariant.new;
  one_each = omega (arith, ap length c.in-Some.ensures.steps.0, ap length c.in-Some-next.ensures.items, c.loop-reader.invariant.one_each);
  room = omega (arith, ap length c.in-Some.ensures.steps.0, c.push_reserved.ensures.len, c.push_reserved.ensures.capacity, c.loop-reader.invariant.room);
}
