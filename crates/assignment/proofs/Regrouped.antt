-- What stays of a search where the numbers of its groups change: what is settled, the nearest end, and from where wagons
-- were reached.
use Rattle.std.proofs.Common.{◌≡◌, ◌<◌, ◌≤◌, ℕ, Vec, get_or, ◌∙◌, arith}
use Rattle.std.specs.declared.alloc.Global.{Global}
use Rattle.cost_table.specs.Table.{wagon_count}
use Rattle.assignment.specs.declared.passes.Span.{Span}
use Rattle.assignment.specs.declared.search.Search.{Search}
use Rattle.assignment.specs.inner.State.{Kept}
use Rattle.assignment.specs.inner.Search.{AreSettled, IsNearestEnd, IsWagonReached, IsWalking, label_at}

abbrev pub regrouped : Search → Vec ℕ Global → Span → Vec ℕ Global → Vec ℕ Global → Search
regrouped f ahead span closed cursor = record f { ahead = ahead; span = span; closed_at = closed; cursor = cursor }

pub reached_regrouped : (s : Kept) (f : Search) (ahead : Vec ℕ Global) (span : Span) (closed cursor : Vec ℕ Global) (distance n i : ℕ) → IsWagonReached s f distance n i → IsWagonReached s (regrouped f ahead span closed cursor) distance n i
reached_regrouped s f ahead span closed cursor distance n i r = record { index = r.index; before = r.before; from = record { within = r.from.within; exact = r.from.exact } }

pub walking_regrouped : (s : Kept) (f : Search) (ahead : Vec ℕ Global) (span : Span) (closed cursor : Vec ℕ Global) (g wagon : ℕ) → IsWalking s f g wagon → IsWalking s (regrouped f ahead span closed cursor) g wagon
walking_regrouped s f ahead span closed cursor g wagon w = record { settled = w.settled; is = w.is }

-- the wagons that are no farther than the front keep their distances
pub settled_regrouped : (s : Kept) (f : Search) (ahead : Vec ℕ Global) (span : Span) (closed cursor : Vec ℕ Global) → AreSettled s f → ((i : ℕ) → i < wagon_count s.table → label_at s f i ≤ f.front → label_at s (regrouped f ahead span closed cursor) i ≡ label_at s f i) → AreSettled s (regrouped f ahead span closed cursor)
settled_regrouped s f ahead span closed cursor h same = record {
  vias = h.vias;
  count = h.count;
  order = h.order;
  near = h.near;
  last = h.last;
  listed = λ k l near. let at = h.listed k l near in record { index = at.index; within = at.within; is = at.is };
  apart = h.apart;
  led = λ x pos l.
      let led = h.led x pos l in
      let far = led.as_far in
      let near = h.near x l in
      record {
        wagon = led.wagon;
        held = led.held;
        as_far = same (get_or f.via.items x 0) led.wagon (omega (arith, far, near)) ∙ led.as_far;
        reached = reached_regrouped s f ahead span closed cursor _ x _ led.reached;
      };
}

pub end_regrouped : (s : Kept) (f : Search) (ahead : Vec ℕ Global) (span : Span) (closed cursor : Vec ℕ Global) → IsNearestEnd s f → IsNearestEnd s (regrouped f ahead span closed cursor)
end_regrouped s f ahead span closed cursor h = record { beyond = h.beyond; none = h.none; limit = h.limit; within = h.within; is = h.is; refusals = h.refusals; wagons = h.wagons }
