use Rattle.std.proofs.Common.{◌∙◌, ◌+◌, ap, arith, length, sym}
use Rattle.std.proofs.lemmas.List.Edits.{length-remove}
use Rattle.fleet_rows.proofs.EmptyList.{absent_stays, empty_there, not_there, taken_off}
use Rattle.fleet_rows.proofs.empty_wagons.take_off.Goals as goal

pub remove-requires : goal.remove-requires
remove-requires c =
    let (within, items) = taken_off c.args.rows.now c.args.index c.index-rows-index.result c.empty_stand.result c.args.indexes.now.items c.requires.within c.index-rows-index.is c.empty_stand.ensures
    c.in-Some.stand c.count_before-before.result c.in-Some.is c.requires.ascending c.requires.exactly (rw c.deref.ensures.value at c.count_before-before.ensures.parts) in
    omega (arith, within, ap length c.deref.ensures.value, c.deref.ensures.len)

pub returns-in-Some-clause-items : goal.returns-in-Some-clause-items
returns-in-Some-clause-items c =
    let (within, items) = taken_off c.args.rows.now c.args.index c.index-rows-index.result c.empty_stand.result c.args.indexes.now.items c.requires.within c.index-rows-index.is c.empty_stand.ensures
    c.in-Some.stand c.count_before-before.result c.in-Some.is c.requires.ascending c.requires.exactly (rw c.deref.ensures.value at c.count_before-before.ensures.parts) in
    c.remove.ensures.items ∙ items

pub returns-in-Some-clause-fewer : goal.returns-in-Some-clause-fewer
returns-in-Some-clause-fewer c =
    let (within, items) = taken_off c.args.rows.now c.args.index c.index-rows-index.result c.empty_stand.result c.args.indexes.now.items c.requires.within c.index-rows-index.is c.empty_stand.ensures
    c.in-Some.stand c.count_before-before.result c.in-Some.is c.requires.ascending c.requires.exactly (rw c.deref.ensures.value at c.count_before-before.ensures.parts) in
    rw (empty_there c.args.rows.now c.args.index c.index-rows-index.result c.empty_stand.result c.args.indexes.now.items c.requires.within c.index-rows-index.is c.empty_stand.ensures c.in-Some.stand c.in-Some.is)
    (ap (λ xs. length xs + 1) c.remove.ensures.items ∙ length-remove c.args.indexes.now.items c.count_before-before.result within)

pub returns-in_default-clause-items : goal.returns-in_default-clause-items
returns-in_default-clause-items c =
    sym (absent_stays c.args.index c.args.indexes.now.items (c.requires.exactly
    ∙ not_there c.args.rows.now c.args.index c.index-rows-index.result c.empty_stand.result c.args.indexes.now.items c.requires.within c.index-rows-index.is c.empty_stand.ensures c.in_default.is))

pub returns-in_default-clause-fewer : goal.returns-in_default-clause-fewer
returns-in_default-clause-fewer c =
    rw (not_there c.args.rows.now c.args.index c.index-rows-index.result c.empty_stand.result c.args.indexes.now.items c.requires.within c.index-rows-index.is c.empty_stand.ensures c.in_default.is)
    (omega arith)
