use Rattle.std.proofs.Common.{◌≡◌, ◌<◌, ℕ, List, length, take, get_or, sym, ◌∙◌, ap, arith, subst}
use Rattle.std.specs.Vec.{with_items}
use Rattle.std.proofs.lemmas.List.{with_items_is}
use Rattle.std.proofs.lemmas.List.Elements.{All-get_or}
use Rattle.cost_table.specs.Table.{Table, order_count, lack_at}
use Rattle.cost_table.specs.PlanList.{IsPlanList}
use Rattle.price_checker.specs.Certificate.{IsCertificate}
use Rattle.price_checker.proofs.Duality.{certificates_optimal}
use Rattle.assignment.specs.declared.state.State.{State}
use Rattle.assignment.specs.inner.Groups.{prices_of}
use Rattle.assignment.specs.inner.State.{Kept, AreCounted, kept, more}
use Rattle.assignment.specs.inner.Sequence.{IsSequence, taken_in}
use Rattle.assignment.specs.inner.Pairs.{pairs_below}
use Rattle.assignment.proofs.Counting.{counted_entry, all_taken}
use Rattle.assignment.proofs.Final.{plan_list, certificate_counted}
use Rattle.assignment.proofs.planner.Planner.plan.Goals as goal

pub serve_order-requires-clause-order : goal.serve_order-requires-clause-order
serve_order-requires-clause-order c =
    let same = c.orders.invariant.table in
    let sequence = c.deref-entry-items.result.now in
    let all : IsSequence (order_count c.orders.state.cells.now) sequence = subst (λ (xs : List (ℕ × ℕ)). IsSequence (order_count c.orders.state.cells.now) xs) (sym c.deref-entry-items.ensures.value) (subst (λ (x : Table). IsSequence (order_count x) c.self.inside.sequence.items) (sym same) c.self.invariant.sequence) in
    All-get_or (λ (entry : ℕ × ℕ). entry.1 < order_count c.orders.state.cells.now) sequence c.orders.entry-index (0, 0) c.orders-test.true all.within

pub orders-preserved : goal.orders-preserved
orders-preserved c =
    let sequence = c.deref-entry-items.result.now in
    let x = c.orders.entry-index in
    let j = (get_or sequence x (0, 0)).1 in
    let s = kept c.serve_order.new.state in
    let after = c.serve_order.ensures.taken in
    let next = after.counted (taken_in c.orders.state.cells.now (take x sequence)) c.orders.invariant.counted in
    record {
      state = after.state;
      room = c.serve_order.ensures.room;
      counted = counted_entry s sequence x c.orders-test.true (subst (λ (t : Table). AreCounted s (more j (lack_at t j) (taken_in t (take x sequence)))) (sym after.table) next);
      table = after.table ∙ c.orders.invariant.table;
    }

pub new-requires : goal.new-requires
new-requires c =
    let s = kept c.orders.state in
    let ep : (with_items c.self.inside.pairs c.write_pairs-count.new.pairs).items ≡ c.write_pairs-count.new.pairs = with_items_is c.self.inside.pairs c.write_pairs-count.new.pairs (c.write_pairs-count.auto.pairs ∙ c.deref_mut.ensures.len) in
    let items : c.truncate.new.self.items ≡ pairs_below (order_count s.table) s.order_of = c.truncate.ensures.items ∙ ap (take c.write_pairs-count.result) ep ∙ c.write_pairs-count.ensures.pairs in
    subst IsPlanList (sym items) (plan_list (order_count s.table) s.order_of)

pub spread-requires-clause-within : goal.spread-requires-clause-within
spread-requires-clause-within c = λ i l.
    let state = c.orders.state in
    let same = c.write_pairs-count.ensures.same in
    let is = c.orders.invariant.state in
    let groups : c.deref.result.now ≡ state.groups.of.items = c.deref.ensures.value ∙ ap (λ (x : State). x.groups.of.items) same in
    let prices : c.deref-2.result.now ≡ state.u.items = c.deref-2.ensures.value ∙ ap (λ (x : State). x.u.items) same in
    let long = ap length groups in
    let grouped = is.groups.grouped in
    let lg = is.groups.group i (omega (arith, l, long, grouped)) in
    let read = ap (λ xs. get_or xs i 0) groups in
    let count = is.group_prices in
    let have = ap length prices in
    omega (arith, lg, read, count, have)

pub returns-clause-certificate : goal.returns-clause-certificate
returns-clause-certificate c =
    let s = kept c.orders.state in
    let t = s.table in
    let sequence = c.deref-entry-items.result.now in
    let same = c.orders.invariant.table in
    let keeps = ap kept c.write_pairs-count.ensures.same in
    let ep : (with_items c.self.inside.pairs c.write_pairs-count.new.pairs).items ≡ c.write_pairs-count.new.pairs = with_items_is c.self.inside.pairs c.write_pairs-count.new.pairs (c.write_pairs-count.auto.pairs ∙ c.deref_mut.ensures.len) in
    let eu : (with_items c.self.inside.prices.u c.spread.new.wide).items ≡ s.u = with_items_is c.self.inside.prices.u c.spread.new.wide (c.spread.auto.wide ∙ c.deref_mut-2.ensures.len) ∙ c.spread.ensures ∙ ap (λ g. prices_of g c.deref-2.result.now) c.deref.ensures.value ∙ ap (λ u. prices_of c.write_pairs-count.new.state.groups.of.items u) c.deref-2.ensures.value ∙ ap (λ (k : Kept). k.u) keeps in
    let ev : (with_items c.self.inside.prices.v c.widen.new.wide).items ≡ s.v = with_items_is c.self.inside.prices.v c.widen.new.wide (c.widen.auto.wide ∙ c.deref_mut-3.ensures.len) ∙ c.widen.ensures ∙ c.deref-3.ensures.value ∙ ap (λ (k : Kept). k.v) keeps in
    let items : c.new.result ≡ pairs_below (order_count t) s.order_of = c.new.ensures ∙ c.truncate.ensures.items ∙ ap (take c.write_pairs-count.result) ep ∙ c.write_pairs-count.ensures.pairs in
    let all : IsSequence (order_count t) sequence = subst (λ (xs : List (ℕ × ℕ)). IsSequence (order_count t) xs) (sym c.deref-entry-items.ensures.value) (subst (λ (x : Table). IsSequence (order_count x) c.self.inside.sequence.items) (sym same) c.self.invariant.sequence) in
    let whole : IsCertificate t (pairs_below (order_count t) s.order_of) s.u s.v = certificate_counted s (taken_in t (take c.orders.entry-index sequence)) c.orders.invariant.state.keeps c.orders.invariant.counted (λ k l. all_taken t sequence c.orders.entry-index k all c.orders-test.false l) in
    let table : t ≡ c.args.self = same ∙ c.self.view_is in
    rw (eu, ev) (subst (λ (x : Table). IsCertificate x c.new.result s.u s.v) table (subst (λ (ps : List (ℕ × ℕ)). IsCertificate t ps s.u s.v) (sym items) whole))

pub returns-clause-optimal : goal.returns-clause-optimal
returns-clause-optimal c =
    certificates_optimal c.args.self c.new.result (with_items c.self.inside.prices.u c.spread.new.wide).items (with_items c.self.inside.prices.v c.widen.new.wide).items (returns-clause-certificate c)
