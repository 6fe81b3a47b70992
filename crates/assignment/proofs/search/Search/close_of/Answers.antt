use Rattle.std.proofs.Common.{◌≡◌, ◌-◌, ℕ, Vec, length, sym, ap, arith, subst}
use Rattle.std.specs.declared.alloc.Global.{Global}
use Rattle.assignment.specs.declared.search.Search.{Search}
use Rattle.assignment.specs.inner.State.{kept}
use Rattle.assignment.specs.inner.Search.{IsSearch}
use Rattle.assignment.proofs.search.Search.close_of.Goals as goal

pub returns-then-index-gt0-clause-search : goal.returns-then-index-gt0-clause-search
returns-then-index-gt0-clause-search c =
    let f = c.args.self.now in
    let f' = c.lead_on.new.self in
    let n = length f.orders.items - 1 in
    let some = c.requires.some in
    let orders : f'.orders ≡ f.orders = ap (λ (x : Search). x.orders) c.lead_on.ensures.same in
    let done = c.lead_on.ensures.search n (omega (arith, some)) c.requires.search in
    subst (λ (m : ℕ). IsSearch (kept c.args.state.now) f' m) (ap (λ (x : Vec ℕ Global). length x.items - 1) (sym orders)) done
