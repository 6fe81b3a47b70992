use Rattle.std.proofs.Common.{◌≡◌, ◌<◌, ◌≤◌, ℕ, [], None, Vec, cond, length, get_or, replicate, refl, sym, ◌∙◌, ap, arith, inl, inr, subst}
use Rattle.std.specs.Prelude.{◌==◌}
use Rattle.std.specs.declared.alloc.Global.{Global}
use Rattle.std.specs.Vec.{vec_capacity}
use Rattle.std.proofs.lemmas.Bool.{cases_eq}
use Rattle.std.proofs.lemmas.Bool.Decides.{nat_tests}
use Rattle.std.proofs.lemmas.List.{length-replicate, get_or-replicate}
use Rattle.cost_table.specs.Table.{wagon_count, order_count}
use Rattle.assignment.specs.declared.passes.Span.{Span}
use Rattle.assignment.specs.declared.search.Search.{Search}
use Rattle.assignment.specs.declared.state.State.{State}
use Rattle.assignment.specs.inner.Passes.{IsSpanOf}
use Rattle.assignment.specs.inner.State.{IsState, Kept, kept}
use Rattle.assignment.specs.inner.Search.{HasRoom, IsKnown, IsSearch, IsWalking, ahead_of, closed_of, group_at, label_at}
use Rattle.assignment.proofs.Idle.{like_idle}
use Rattle.assignment.proofs.Labels.{label_closed, label_open}
use Rattle.assignment.proofs.Walking.{walking_first}
use Rattle.assignment.proofs.Nearness.{all_far_count}

-- a search that has reached nothing
abbrev pub cleared : Search → Span → Vec ℕ Global → Vec ℕ Global → Vec ℕ Global → Vec ℕ Global → Vec ℕ Global → Vec ℕ Global → Search
cleared f span ahead closed cursor distances orders via = record f { span = span; ahead = ahead; closed_at = closed; cursor = cursor; order_distance = distances; orders = orders; via = via; front = 0; end = record { distance = 4294967295; index = 0; wagon = None } }

-- the number of a group that nothing has reached, by its first wagon without an order
abbrev opened : ℕ → ℕ
opened n = cond (n == 4294967295) 4294967295 0

open_is : (n : ℕ) → n ≡ 4294967295 → opened n ≡ 4294967295
open_is n e = grind (arith, nat_tests, e)

skipped_is : (n : ℕ) → (n ≡ 4294967295 → ⊥) → opened n ≡ 0
skipped_is n other = grind (arith, nat_tests, other)

known_cleared : (state : State) (f : Search) (i : ℕ) → IsState state → i < wagon_count state.cells.now → f.front ≡ 0 → closed_of f (group_at (kept state) i) ≡ 4294967295 → ahead_of f (group_at (kept state) i) ≡ opened (get_or state.idle.items (group_at (kept state) i) 0) → IsKnown (kept state) f i
known_cleared state f i h l front closed ahead =
    let s = kept state in
    let g = group_at s i in
    let grouped = h.groups.grouped in
    let few = h.keeps.table.wagons in
    elim (cases_eq (get_or state.idle.items g 0) 4294967295) [
      | inl full ↦
          let a : ahead_of f g ≡ 4294967295 = ahead ∙ open_is (get_or state.idle.items g 0) full in
          let label = label_open (ahead_of f g) (closed_of f g) (omega (arith, a)) in
          record {
            held = λ k held. omega (arith, front);
            idle = λ none. absurd (let le = (h.idle.first i (omega (arith, l, grouped))).0 none in omega (arith, le, full, l, few));
            skipped = λ far. absurd (omega (arith, far, label, a));
            front = λ leads. omega (arith, front);
            fresh = λ leads. closed;
            closed = λ none near. absurd (omega (arith, none, a));
            settled = λ none near k held. absurd (omega (arith, none, a));
          }
      | inr some ↦
          let a : ahead_of f g ≡ 0 = ahead ∙ skipped_is (get_or state.idle.items g 0) some in
          let label : label_at s f i ≡ 4294967295 = label_closed (ahead_of f g) (closed_of f g) a ∙ closed in
          let there = h.idle.within g (h.groups.group i l) some in
          record {
            held = λ k held. omega (arith, front);
            idle = λ none. (a, omega (arith, label));
            skipped = λ far. like_idle state i h l (omega (arith, there, grouped));
            front = λ leads. absurd (omega (arith, leads, a));
            fresh = λ leads. closed;
            closed = λ none near. absurd (omega (arith, near, label));
            settled = λ none near k held. absurd (omega (arith, near, label));
          }
    ]

-- nothing has a distance
far_cleared : (s : Kept) (f : Search) (i idle : ℕ) → closed_of f (group_at s i) ≡ 4294967295 → ahead_of f (group_at s i) ≡ opened idle → label_at s f i ≤ 1000000000 → ⊥
far_cleared s f i idle closed ahead near =
    let g = group_at s i in
    elim (cases_eq idle 4294967295) [
      | inl full ↦
          let a : ahead_of f g ≡ 4294967295 = ahead ∙ open_is idle full in
          let label = label_open (ahead_of f g) (closed_of f g) (omega (arith, a)) in
          omega (arith, near, label, a)
      | inr some ↦
          let a : ahead_of f g ≡ 0 = ahead ∙ skipped_is idle some in
          let label : label_at s f i ≡ 4294967295 = label_closed (ahead_of f g) (closed_of f g) a ∙ closed in
          omega (arith, near, label)
    ]

pub search_cleared : (state : State) (f : Search) (span : Span) (ahead closed cursor distances orders via : Vec ℕ Global) → IsState state → HasRoom (kept state) f → length ahead.items ≡ length f.ahead.items → ((g : ℕ) → g < length f.ahead.items → get_or ahead.items g 0 ≡ opened (get_or state.idle.items g 0)) → closed.items ≡ replicate (length f.closed_at.items) 4294967295 → cursor.items ≡ state.groups.first.items → distances.items ≡ replicate (length f.order_distance.items) 4294967295 → orders.items ≡ [] → via.items ≡ [] → vec_capacity orders ≡ vec_capacity f.orders → vec_capacity via ≡ vec_capacity f.via → IsSpanOf ahead.items span → IsSearch (kept state) (cleared f span ahead closed cursor distances orders via) 0
search_cleared state f span ahead closed cursor distances orders via h room la ae ce we de oe ve oc vc spans =
    let s = kept state in
    let f' = cleared f span ahead closed cursor distances orders via in
    let groups = room.ahead in
    let closes = room.closed in
    let count = room.distances in
    let ld : length distances.items ≡ order_count s.table = ap length de ∙ length-replicate (length f.order_distance.items) 4294967295 ∙ count in
    let far : (q : ℕ) → q < length distances.items → get_or distances.items q 0 ≡ 4294967295 = λ q l. ap (λ x. get_or x q 0) de ∙ get_or-replicate (length f.order_distance.items) q 4294967295 0 (omega (arith, l, ld, count)) in
    let none : length orders.items ≡ 0 = ap length oe in
    let known : (i : ℕ) → i < wagon_count s.table → IsKnown s f' i = λ i l.
    let g = group_at s i in
    let lg = h.groups.group i l in
    known_cleared state f' i h l refl (ap (λ x. get_or x g 0) ce ∙ get_or-replicate (length f.closed_at.items) g 4294967295 0 (omega (arith, lg, closes))) (ae g (omega (arith, lg, groups))) in
    record {
      room = record {
        ahead = la ∙ groups;
        closed = ap length ce ∙ length-replicate (length f.closed_at.items) 4294967295 ∙ closes;
        cursors = ap length we;
        distances = ld;
        orders = oc ∙ room.orders;
        vias = vc ∙ room.vias;
      };
      span = spans;
      labels = λ i l near. absurd (
          let g = group_at s i in
          let lg = h.groups.group i l in
          far_cleared s f' i (get_or state.idle.items g 0) (ap (λ x. get_or x g 0) ce ∙ get_or-replicate (length f.closed_at.items) g 4294967295 0 (omega (arith, lg, closes))) (ae g (omega (arith, lg, groups))) near);
      relaxed = λ x l. absurd (omega (arith, l));
      known = known;
      walked = λ g l. subst (IsWalking s f' g) (sym (ap (λ x. get_or x g 0) we)) (walking_first state f' g h l);
      settled = record {
        vias = ap length ve ∙ sym none;
        count = none ∙ sym (all_far_count distances.items far);
        order = λ x l. absurd (omega (arith, l, none));
        near = λ x l. absurd (omega (arith, l, none));
        last = λ x l. absurd (omega (arith, l, none));
        listed = λ q l near. absurd (let d = far q (omega (arith, l, ld)) in omega (arith, d, near));
        apart = λ x y lt l. absurd (omega (arith, l, none));
        led = λ x pos l. absurd (omega (arith, l, none));
      };
      end = record {
        beyond = omega arith;
        none = λ e. refl;
        limit = λ some. absurd (omega (arith, some, none));
        within = λ some. absurd (omega (arith, some, none));
        is = λ some. absurd (omega (arith, some, none));
        refusals = λ x l. absurd (omega (arith, l, none));
        wagons = λ x i l li is. absurd (omega (arith, l, none));
      };
    }
