use Rattle.std.specs.Prelude.{nat_lt}
use Rattle.std.proofs.Common.{◌≡◌, ◌-◌, ℕ, List, length, get_or, refl, sym, ◌∙◌, ap, arith, subst}
use Rattle.assignment.specs.declared.search.End.{End}
use Rattle.assignment.specs.declared.state.State.{State}
use Rattle.assignment.specs.inner.State.{IsHead, Kept, kept}
use Rattle.assignment.specs.inner.Search.{IsNext, IsSearch}
use Rattle.assignment.proofs.Running.{began_with, head_nearer, next_first, path_at_front}
use Rattle.assignment.proofs.search.Search.run.Goals as goal

pub settling-init : goal.settling-init
settling-init c =
    let s = kept c.args.state.now in
    let f = c.clear.new.self in
    let none = c.clear.ensures.none in
    record {
      state = c.requires.state;
      same = refl;
      running = record {
        search = subst (λ (n : ℕ). IsSearch s f n) (sym none) c.clear.ensures.search;
        is_next = next_first s f c.args.j c.requires.order c.clear.ensures.search none c.clear.ensures.front;
        begins = λ _. refl;
        began = λ some. absurd (omega (arith, some, none));
      };
      head = subst (IsHead c.args.state.now) (sym c.clear.ensures.end) tt;
    }

pub settle-requires-clause-search : goal.settle-requires-clause-search
settle-requires-clause-search c =
    let state' = c.end-end.new.self in
    let same = c.end-end.ensures.same ∙ ap (λ (x : State). record x { bound = state'.bound; nearest = state'.nearest }) c.settling.invariant.same in
    subst (λ (s : Kept). IsSearch s c.settling.self (length c.settling.self.orders.items)) (sym (ap kept same)) c.settling.invariant.running.search

pub returns-then-self-clause-path : goal.returns-then-self-clause-path
returns-then-self-clause-path c =
    let state' = c.end-end.new.self in
    let same = c.end-end.ensures.same ∙ ap (λ (x : State). record x { bound = state'.bound; nearest = state'.nearest }) c.settling.invariant.same in
    let n = length c.settling.self.orders.items in
    path_at_front (kept c.args.state.now) c.settle.new.self n (subst (λ (s : Kept). IsSearch s c.settle.new.self n) (ap kept same) c.settle.ensures.search) (sym c.settle.ensures.count) c.if-self.true

pub close_last-requires-clause-search : goal.close_last-requires-clause-search
close_last-requires-clause-search c =
    let count = c.settle.ensures.count in
    let last : length c.settling.self.orders.items ≡ length c.settle.new.self.orders.items - 1 = omega (arith, count) in
    subst (λ (n : ℕ). IsSearch (kept c.end-end.new.self) c.settle.new.self n) last c.settle.ensures.search

pub settling-preserved : goal.settling-preserved
settling-preserved c =
    let state = c.args.state.now in
    let state' = c.end-end.new.self in
    let f = c.settling.self in
    let running = c.settling.invariant.running in
    let same = c.end-end.ensures.same ∙ ap (λ (x : State). record x { bound = state'.bound; nearest = state'.nearest }) c.settling.invariant.same in
    let k : kept state' ≡ kept state = ap kept same in
    let f' = c.next.new.self in
    let settle = c.settle.ensures in
    let orders : f'.orders.items ≡ c.settle.new.self.orders.items = c.next.ensures.orders ∙ c.relax_last-onward.ensures.orders ∙ c.close_last.ensures.orders in
    let ends : f'.end ≡ c.settle.new.self.end = c.next.ensures.end ∙ c.relax_last-onward.ensures.end ∙ c.close_last.ensures.end in
    let count = settle.count in
    let long = ap length orders in
    let began = began_with f c.settle.new.self c.args.j c.settling.next.order running.begins running.began settle.first settle.others in
    let head_found = subst (λ (x : State). IsHead x c.end-end.result.wagon) c.settling.invariant.same c.end-end.ensures.head in
    record {
      state = c.end-end.ensures.state;
      same = same;
      running = record {
        search = subst (λ (s : Kept). IsSearch s f' (length f'.orders.items)) k c.next.ensures.search;
        is_next = subst (λ (s : Kept). IsNext s f' c.in-Some.following) k c.in-Some.ensures.next;
        begins = λ none. absurd (omega (arith, none, long, count));
        began = λ _. ap (λ (xs : List ℕ). get_or xs 0 0) orders ∙ began;
      };
      head = subst (λ (e : End). IsHead state e.wagon) (sym (ends ∙ settle.end)) (head_nearer state (nat_lt c.end-end.result.distance f.end.distance) c.end-end.result f.end head_found c.settling.invariant.head);
    }

pub returns-in_default-clause-head : goal.returns-in_default-clause-head
returns-in_default-clause-head c =
    let state = c.args.state.now in
    let f = c.settling.self in
    let ends = c.next.ensures.end ∙ c.relax_last-onward.ensures.end ∙ c.close_last.ensures.end in
    let head_found = subst (λ (x : State). IsHead x c.end-end.result.wagon) c.settling.invariant.same c.end-end.ensures.head in
    subst (λ (e : End). IsHead state e.wagon) (sym (ends ∙ c.settle.ensures.end)) (head_nearer state (nat_lt c.end-end.result.distance f.end.distance) c.end-end.result f.end head_found c.settling.invariant.head)
