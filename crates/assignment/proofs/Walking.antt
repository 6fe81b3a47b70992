-- A walk along the wagons of a group, until one's order isn't settled.
use Rattle.std.proofs.Common.{◌≡◌, ◌≢◌, ◌<◌, ℕ, Option, Some, None, length, get_or, refl, sym, ◌∙◌, ap, arith, inl, inr}
use Rattle.std.proofs.lemmas.Bool.{cases_eq, cases_lt}
use Rattle.std.proofs.lemmas.List.{get_or_read}
use Rattle.cost_table.specs.Table.{wagon_count, order_count}
use Rattle.assignment.specs.declared.search.Search.{Search}
use Rattle.assignment.specs.declared.state.State.{State}
use Rattle.assignment.specs.inner.State.{IsState, kept, order_at}
use Rattle.assignment.specs.inner.Search.{IsClosable, IsLedFrom, IsSearch, ahead_of, group_at, distance_at, IsWalking}
use Rattle.assignment.proofs.Limits.{held_order}
use Rattle.assignment.proofs.Numbers.{number_some, orders_length}

-- the walk begins at the group's first wagon
pub walking_first : (state : State) (f : Search) (g : ℕ) → IsState state → g < length state.groups.first.items → IsWalking (kept state) f g (get_or state.groups.first.items g 0)
walking_first state f g h l = record {
  settled = λ i k li group before held. absurd (
      let least = h.groups.first_least i li in
      let same : get_or state.groups.first.items (get_or state.groups.of.items i 0) 0 ≡ get_or state.groups.first.items g 0 = ap (λ y. get_or state.groups.first.items y 0) group in
      omega (arith, least, same, before));
  is = λ some. (h.groups.first_within g l, h.groups.first_of g l);
}

some_inner : (a b : ℕ) → Some a ≡ Some b → a ≡ b
some_inner a b e = cc

-- the wagon's order is settled, and the walk goes on to the next one
pub walking_next : (state : State) (f : Search) (g wagon order : ℕ) → IsState state → IsWalking (kept state) f g wagon → wagon ≢ 4294967295 → order_at (kept state).order_of wagon ≡ Some order → distance_at f order < 4294967295 → IsWalking (kept state) f g (get_or state.groups.next.items wagon 0)
walking_next state f g wagon order h w some is near =
    let here = w.is some in
    let lw = here.0 in
    record {
      settled = λ i k li group before held. elim (cases_lt i wagon) [
        | inl less ↦ w.settled i k li group less held
        | inr more ↦ elim (cases_eq i wagon) [
          | inl same ↦ let both : Some k ≡ Some order = sym held ∙ ap (order_at (kept state).order_of) same ∙ is in let e : k ≡ order = some_inner k order both in let d : distance_at f k ≡ distance_at f order = ap (distance_at f) e in omega (arith, d, near)
          | inr apart ↦ absurd (let between = h.groups.between i wagon li lw (group ∙ sym here.1) (omega (arith, more, apart)) in omega (arith, between, before))
        ]
      ];
      is = λ other. elim (h.groups.next_of wagon lw) [
        | inl none ↦ absurd (other none)
        | inr next ↦ (next.0, next.1 ∙ here.1)
      ];
    }

-- at the end of the walk all orders are settled
pub walking_all : (state : State) (f : Search) (g wagon : ℕ) → IsState state → IsWalking (kept state) f g wagon → wagon ≡ 4294967295 → IsClosable (kept state) f g
walking_all state f g wagon h w end i k l group held = w.settled i k l group (let few = h.keeps.table.wagons in omega (arith, l, few, end)) held

-- a wagon of a group that leads on has an order
pub record IsHeld (state : State) (i order : ℕ) : Type 0 where
  pub held : order_at (kept state).order_of i ≡ Some order
  pub within : order < order_count state.cells.now

held_by : (state : State) (i : ℕ) (o : Option ℕ) → IsState state → i < length state.order_of.items → order_at (kept state).order_of i ≡ o → (o ≡ None → ⊥) → IsHeld state i (get_or state.order_of.items i 0)
held_by state i None h l e some = absurd (some refl)
held_by state i (Some k) h l e some =
    let number = number_some state.order_of.items i k l e in
    let within = held_order (kept state) i k h.keeps e in
    record { held = e ∙ ap (λ y. Some y) (sym number); within = omega (arith, number, within) }

pub held_led : (state : State) (f : Search) (g i n : ℕ) → IsState state → IsSearch (kept state) f n → IsLedFrom (kept state) f g → i < wagon_count state.cells.now → group_at (kept state) i ≡ g → i < length state.order_of.items → IsHeld state i (get_or state.order_of.items i 0)
held_led state f g i n h search led l group lo =
    held_by state i (order_at (kept state).order_of i) h lo refl (λ none. let m = ((search.known i l).idle none).0 in let a : ahead_of f (group_at (kept state) i) ≡ ahead_of f g = ap (ahead_of f) group in let leads = led.ahead in omega (arith, m, a, leads))

-- what is read of the wagon that the walk has come to
pub record IsRead (state : State) (f : Search) (g wagon order : ℕ) : Type 0 where
  pub within : wagon < wagon_count state.cells.now
  pub group : group_at (kept state) wagon ≡ g
  pub held : order_at (kept state).order_of wagon ≡ Some order
  pub order_within : order < length f.order_distance.items
  pub later : wagon < get_or state.groups.next.items wagon 0

pub read_wagon : (state : State) (f : Search) (g wagon order n : ℕ) → IsState state → IsSearch (kept state) f n → IsLedFrom (kept state) f g → IsWalking (kept state) f g wagon → wagon ≢ 4294967295 → order ≡ get_or state.order_of.items wagon order → IsRead state f g wagon order
read_wagon state f g wagon order n h search led w some read =
    let here = w.is some in
    let lw = here.0 in
    let len = h.keeps.held.wagons in
    let long = orders_length state.order_of.items in
    let lo : wagon < length state.order_of.items = omega (arith, lw, len, long) in
    let is : order ≡ get_or state.order_of.items wagon 0 = get_or_read state.order_of.items wagon order lo read 0 in
    let held = held_led state f g wagon n h search led lw here.1 lo in
    let within = held.within in
    let room = search.room.distances in
    record {
      within = lw;
      group = here.1;
      held = held.held ∙ ap (λ y. Some y) (sym is);
      order_within = omega (arith, within, is, room);
      later = h.groups.next_later wagon lw;
    }
