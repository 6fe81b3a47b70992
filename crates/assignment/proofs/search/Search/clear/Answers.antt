use Rattle.std.proofs.Common.{◌≡◌, ◌∙◌, ap, length, rules, arith}
use Rattle.std.specs.Vec.{with_items}
use Rattle.std.proofs.lemmas.List.{with_items_is}
use Rattle.assignment.proofs.Clearing.{search_cleared}
use Rattle.assignment.proofs.Spans.{span_of, span_of_all}
use Rattle.assignment.proofs.search.Search.clear.Goals as goal

pub returns-clause-search : goal.returns-clause-search
returns-clause-search c =
    let f = c.args.self.now in
    let value = c.deref_mut.ensures.value in
    let count = c.open.auto.ahead ∙ ap length value in
    let is : (with_items f.ahead c.open.new.ahead).items ≡ c.open.new.ahead = with_items_is f.ahead c.open.new.ahead (c.open.auto.ahead ∙ c.deref_mut.ensures.len) in
    search_cleared c.args.state.now f (span_of 0 c.len.result) (with_items f.ahead c.open.new.ahead) c.fill.new.self c.copy_from_slice.new.self c.fill-2.new.self c.clear.new.self c.clear-2.new.self c.requires.state c.requires.room (rw is count) (rw is (rw (value, c.deref.ensures.value) at c.open.ensures)) (search rules) (c.copy_from_slice.ensures.items ∙ c.deref-2.ensures.value) (search rules) c.clear.ensures.items c.clear-2.ensures.items c.clear.ensures.capacity c.clear-2.ensures.capacity
    (span_of_all (with_items f.ahead c.open.new.ahead).items c.len.result (let all : length (with_items f.ahead c.open.new.ahead).items ≡ length f.ahead.items = rw is count in omega (arith, c.len.ensures, all, f.ahead.ok.0)))
