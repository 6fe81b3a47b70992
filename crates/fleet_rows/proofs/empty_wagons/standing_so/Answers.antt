use Rattle.std.proofs.Common.{◌∙◌, subst, sym}
use Rattle.std.specs.List.Sorted.{IsStrictlySortedBy}
use Rattle.fleet_rows.specs.inner.EmptyList.{compare_indexes}
use Rattle.fleet_rows.proofs.EmptyCounts.{cut_out, rest_ascends}
use Rattle.fleet_rows.proofs.empty_wagons.standing_so.Goals as goal

pub count_before-end-requires : goal.count_before-end-requires
count_before-end-requires c =
    let parts = c.count_before-first.ensures.parts in
    subst (IsStrictlySortedBy (compare_indexes c.args.rows.now)) (sym c.split_at.ensures.back)
    (rest_ascends c.args.rows.now c.args.stand.now c.args.indexes.now c.count_before-first.result c.count_before-first.ensures.bound parts.0 parts.1 c.requires)

pub returns : goal.returns
returns c =
    let parts = c.count_before-first.ensures.parts in
    let rest = c.count_before-end.ensures.parts in
    c.split_at-2.ensures.front
    ∙ cut_out c.args.rows.now c.args.stand.now c.args.indexes.now c.count_before-first.result c.count_before-end.result c.split_at.result.1.now c.count_before-first.ensures.bound parts.0 parts.1
    c.split_at.ensures.back c.count_before-end.ensures.bound rest.0 rest.1
