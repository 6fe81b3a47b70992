use Rattle.std.proofs.Common.{◌≡◌, ◌∙◌, ap, arith, length, nat_eq, slice_get, subst, sym}
use Rattle.std.specs.List.{insert}
use Rattle.std.specs.List.Sorted.{IsStrictlySortedBy}
use Rattle.std.proofs.lemmas.List.Edits.{length-insert}
use Rattle.fleet_rows.specs.inner.EmptyList.{compare_indexes, is_empty_row, is_on}
use Rattle.fleet_rows.proofs.EmptyList.{empty_there, not_there, on-insert, put_there, with_it, without_it}
use Rattle.fleet_rows.proofs.empty_wagons.put_on.Goals as goal

items : (c : goal.After-unwrap) → c.insert.new.self.items ≡ insert c.args.indexes.now.items c.count_before-before.result c.args.index
items c = rw c.unwrap.ensures at c.insert.ensures.items

pub returns-in-Some-clause-ascending : goal.returns-in-Some-clause-ascending
returns-in-Some-clause-ascending c =
    subst (IsStrictlySortedBy (compare_indexes c.args.rows.now)) (sym (items c))
    (put_there c.args.rows.now c.args.index c.index-rows-index.result c.empty_stand.result c.args.indexes.now.items c.requires.within c.index-rows-index.is c.empty_stand.ensures
    c.in-Some.stand c.count_before-before.result c.in-Some.is c.requires.ascending c.requires.absent (rw c.deref.ensures.value at c.count_before-before.ensures.parts))

pub returns-in-Some-clause-with_it : goal.returns-in-Some-clause-with_it
returns-in-Some-clause-with_it c = λ other.
    ap (λ xs. is_on xs other) (items c) ∙ (on-insert other c.args.indexes.now.items c.count_before-before.result c.args.index
    ∙ with_it (nat_eq other c.args.index) (is_empty_row (slice_get c.args.rows.now c.args.index)) (is_on c.args.indexes.now.items other)
    (empty_there c.args.rows.now c.args.index c.index-rows-index.result c.empty_stand.result c.args.indexes.now.items c.requires.within c.index-rows-index.is c.empty_stand.ensures c.in-Some.stand c.in-Some.is))

pub returns-in-Some-clause-more : goal.returns-in-Some-clause-more
returns-in-Some-clause-more c =
    let within = rw c.deref.ensures.value at c.count_before-before.ensures.bound in
    rw (empty_there c.args.rows.now c.args.index c.index-rows-index.result c.empty_stand.result c.args.indexes.now.items c.requires.within c.index-rows-index.is c.empty_stand.ensures c.in-Some.stand c.in-Some.is)
    (ap length (items c) ∙ length-insert c.args.indexes.now.items c.count_before-before.result c.args.index within)

pub returns-in_default-clause-with_it : goal.returns-in_default-clause-with_it
returns-in_default-clause-with_it c = λ other.
    without_it (nat_eq other c.args.index) (is_empty_row (slice_get c.args.rows.now c.args.index)) (is_on c.args.indexes.now.items other)
    (not_there c.args.rows.now c.args.index c.index-rows-index.result c.empty_stand.result c.args.indexes.now.items c.requires.within c.index-rows-index.is c.empty_stand.ensures c.in_default.is)

pub returns-in_default-clause-more : goal.returns-in_default-clause-more
returns-in_default-clause-more c =
    rw (not_there c.args.rows.now c.args.index c.index-rows-index.result c.empty_stand.result c.args.indexes.now.items c.requires.within c.index-rows-index.is c.empty_stand.ensures c.in_default.is)
    (omega arith)
