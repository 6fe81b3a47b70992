-- The state once a path has handed a unit on.
use Rattle.std.specs.Prelude.{IfSome}
use Rattle.std.proofs.Common.{◌≡◌, ℕ, List, Vec, length, sym, ap, subst}
use Rattle.std.specs.declared.alloc.Global.{Global}
use Rattle.cost_table.specs.Table.{order_count}
use Rattle.assignment.specs.declared.search.Search.{Search}
use Rattle.assignment.specs.declared.state.State.{State}
use Rattle.assignment.specs.inner.Groups.{prices_of}
use Rattle.assignment.specs.inner.Path.{AreHandedOn, IsGiven, IsHandedOn, IsOnPath, given_up, wagons_of}
use Rattle.assignment.specs.inner.Search.{IsShortestPath, settled_at}
use Rattle.assignment.specs.inner.State.{AreCounted, AreServed, IsHead, IsKept, IsState, Kept, idle_after, kept, more, orders_of, served}
use Rattle.assignment.specs.inner.Taken.{HasTaken}
use Rattle.assignment.proofs.Idle.{idle_handed, none_before}
use Rattle.assignment.proofs.Raised.{AreRaised, held_raised, priced_raised, raised}
use Rattle.assignment.proofs.Unit.{counted_more}

-- what a path left: the orders handed on, the prices raised, the unit counted, and the wagon at its end taken
pub record IsUnitTaken (state : State) (f : Search) (u v order_of numbers idle : List ℕ) : Type 0 where
  pub is_state : IsState state
  pub path : IsShortestPath (kept state) f
  pub head : IsHead state f.end.wagon
  pub handed_on : AreHandedOn (kept state) f (IsOnPath f) (orders_of order_of)
  pub given : IfSome f.end.wagon (IsGiven (kept state) f (orders_of order_of))
  pub count : (k : ℕ) → IsHandedOn (wagons_of (kept state)) (λ k. served k (orders_of order_of)) f (given_up f) k
  pub wagons : length (orders_of order_of) ≡ length (kept state).order_of
  pub raised : AreRaised (kept state) f (prices_of state.groups.of.items u) v
  pub prices : length u ≡ length state.groups.first.items
  pub are_served : AreServed (order_count state.cells.now) (orders_of order_of) numbers
  pub idle_is : idle ≡ idle_after state.groups state.idle.items f.end.wagon

abbrev pub state_after : State → Vec ℕ Global → Vec ℕ Global → Vec ℕ Global → Vec ℕ Global → Vec ℕ Global → State
state_after state u v order_of numbers idle = record state { u = u; v = v; order_of = order_of; served = numbers; idle = idle }

unit_state : (state : State) (f : Search) (u v order_of numbers idle : Vec ℕ Global) → IsUnitTaken state f u.items v.items order_of.items numbers.items idle.items → IsState (state_after state u v order_of numbers idle)
unit_state state f u v order_of numbers idle t =
    let s = kept state in
    let h = orders_of order_of.items in
    let is = t.is_state in
    let keeps = is.keeps in
    let prices = prices_of state.groups.of.items u.items in
    let done : IsKept (raised s prices v.items h) = record {
      table = keeps.table;
      priced = priced_raised s f prices v.items h keeps t.path t.raised;
      held = held_raised s f prices v.items h keeps t.path t.raised t.wagons t.handed_on;
    } in
    record {
      keeps = done;
      groups = is.groups;
      group_prices = t.prices;
      costs = is.costs;
      idle = idle_handed state f h idle.items is t.path t.handed_on t.given t.head t.idle_is;
      bounds = record {
        count = is.bounds.count;
        least = λ i j li lj none. is.bounds.least i j li lj (none_before s f h i t.handed_on none);
      };
      hints = is.hints;
      served = t.are_served;
    }

pub unit_taken : (before state after : State) (f : Search) (j : ℕ) (u v order_of numbers idle : Vec ℕ Global) → state ≡ record before { bound = state.bound; nearest = state.nearest } → settled_at f 0 ≡ j → IsUnitTaken state f u.items v.items order_of.items numbers.items idle.items → after ≡ state_after state u v order_of numbers idle → HasTaken before after j 1
unit_taken before state after f j u v order_of numbers idle same first t e =
    let s = kept state in
    let h = orders_of order_of.items in
    let prices = prices_of state.groups.of.items u.items in
    let now = state_after state u v order_of numbers idle in
    let whole : HasTaken before now j 1 = record {
      state = unit_state state f u v order_of numbers idle t;
      counted = λ taken counted.
          let was : AreCounted s taken = subst (λ (x : Kept). AreCounted x taken) (sym (ap kept same)) counted in
          let more_counted : AreCounted (raised s prices v.items h) (more j 1 taken) = counted_more s f prices v.items h j taken t.is_state.keeps t.path t.raised first t.count was in
          more_counted;
      table = ap (λ (x : State). x.cells.now) same;
      groups = ap (λ (x : State). x.groups) same;
    } in
    subst (λ (x : State). HasTaken before x j 1) (sym e) whole
