use Rattle.std.proofs.Common.{◌≡◌, ◌+◌, ◌<◌, ℕ, Vec, length, get_or, sym, ◌∙◌, ap, arith, subst}
use Rattle.std.specs.declared.alloc.Global.{Global}
use Rattle.std.proofs.lemmas.List.{get_or_read}
use Rattle.assignment.specs.declared.search.Search.{Search}
use Rattle.assignment.specs.declared.search.End.{End}
use Rattle.assignment.specs.inner.State.{kept}
use Rattle.assignment.specs.inner.Search.{IsNext, IsSearch, ahead_of}
use Rattle.assignment.proofs.Ending.{starts_after}
use Rattle.assignment.proofs.Numbers.{number_some, orders_length}
use Rattle.assignment.proofs.Running.{IsBelow, below_closed, next_found}
use Rattle.assignment.proofs.Settle.{next_of}
use Rattle.assignment.proofs.search.Search.next.Goals as goal

pub returns-in-Some-lead_on-clause-search : goal.returns-in-Some-lead_on-clause-search
returns-in-Some-lead_on-clause-search c =
    let f = c.groups.self in
    let f' = c.lead_on.new.self in
    let n = length f.orders.items in
    let orders : f'.orders ≡ f.orders = ap (λ (x : Search). x.orders) c.lead_on.ensures.same in
    let done = c.lead_on.ensures.search n (omega arith) c.groups.invariant.search in
    subst (λ (m : ℕ). IsSearch (kept c.args.state.now) f' m) (ap (λ (x : Vec ℕ Global). length x.items) (sym orders)) done

pub returns-in-Some-lead_on-clause-next : goal.returns-in-Some-lead_on-clause-next
returns-in-Some-lead_on-clause-next c =
    let state = c.args.state.now in
    let s = kept state in
    let f = c.groups.self in
    let f' = c.lead_on.new.self in
    let h = c.groups.invariant in
    let same = c.lead_on.ensures.same in
    let onward = c.groups.onward in
    let group = c.in-Some.group in
    let wagon = c.in-Some-lead_on.wagon in
    let found = rw (c.deref.ensures.value) at c.in-Some.ensures.found in
    let nearer = c.in-Some-lead_on.ensures.some in
    let within = nearer.within in
    let len = c.requires.state.keeps.held.wagons in
    let long = orders_length state.order_of.items in
    let lo : wagon < length state.order_of.items = omega (arith, within, len, long) in
    let read = get_or_read state.order_of.items wagon c.index.result.now lo c.index.ensures 0 in
    let number = number_some state.order_of.items wagon nearer.order lo nearer.held in
    let orders : f'.orders ≡ f.orders = ap (λ (x : Search). x.orders) same in
    let ahead : f'.ahead ≡ f.ahead = c.in-Some-lead_on.ensures.ahead in
    let ends : f'.end ≡ f.end = ap (λ (x : Search). x.end) same in
    let count = ap (λ (x : Vec ℕ Global). length x.items) orders in
    let some : 0 < length f'.orders.items = (let was = c.requires.some in let e = ap length h.orders in omega (arith, was, e, count)) in
    let less : onward < f'.end.distance = (let e = ap (λ (x : End). x.distance) ends in omega (arith, e, c.groups-test.true)) in
    let below : IsBelow f' onward = subst (λ (a : Vec ℕ Global). (g : ℕ) → g < length a.items → 0 < get_or a.items g 0 → onward < get_or a.items g 0) (sym ahead) h.below in
    let at : ahead_of f' group ≡ onward + 1 = ap (λ (a : Vec ℕ Global). get_or a.items group 0) ahead ∙ found.is in
    let next = next_found s f' onward group wagon nearer.order c.requires.state.keeps (returns-in-Some-lead_on-clause-search c) some (λ i l. c.requires.state.groups.group i l) below less at nearer nearer.held nearer.far in
    subst (λ (x : ℕ). IsNext s f' (next_of x onward wagon)) (sym (read ∙ number)) next

pub groups-preserved-in-Some : goal.groups-preserved-in-Some
groups-preserved-in-Some c =
    let f = c.groups.self in
    let f' = c.lead_on.new.self in
    let h = c.groups.invariant in
    let same = c.lead_on.ensures.same in
    let found = rw (c.deref.ensures.value) at c.in-Some.ensures.found in
    let n = length f.orders.items in
    let orders : f'.orders ≡ f.orders = ap (λ (x : Search). x.orders) same in
    let done = c.lead_on.ensures.search n (omega arith) h.search in
    record {
      search = subst (λ (m : ℕ). IsSearch (kept c.args.state.now) f' m) (ap (λ (x : Vec ℕ Global). length x.items) (sym orders)) done;
      orders = ap (λ (x : Vec ℕ Global). x.items) orders ∙ h.orders;
      end = ap (λ (x : Search). x.end) same ∙ h.end;
      front = ap (λ (x : Search). x.front) same ∙ h.front;
      from = (let same_span = ap (λ (x : Search). x.span.start) same in let le = h.from in let at = found.from in omega (arith, same_span, le, at));
      ordered = (let at = found.before in omega (arith, at));
      before = h.before ∙ sym (ap (λ (x : Search). x.span.end) same);
      below = below_closed f.ahead.items f'.ahead.items c.groups.onward c.in-Some.group h.below (let at = found.before in let e = h.before in let within = h.search.span.within in omega (arith, at, e, within)) c.in_default.ensures.none;
      nearest = λ e. absurd (let same_span = ap (λ (x : Search). x.span.start) same in let le = h.from in let at = found.from in omega (arith, e, same_span, le, at));
    }

pub groups-smaller : goal.groups-smaller
groups-smaller c =
    let h = c.groups.invariant in
    let some : 0 < length c.groups.self.orders.items = (let was = c.requires.some in let e = ap length h.orders in omega (arith, was, e)) in
    let top = h.search.end.limit some in
    let later = starts_after c.groups.self c.groups.span c.groups.onward h.search.span h.from h.before h.nearest (omega (arith, top, c.groups-test.true)) (rw (c.deref.ensures.value) at c.in-None.ensures.none) in
    omega (arith, later)
