use Rattle.std.proofs.Common.{◌≡◌, ◌%◌, ℕ, set, refl, arith, subst}
use Rattle.cost_table.specs.Table.{wagon_count}
use Rattle.assignment.specs.inner.Groups.{AreGrouped}
use Rattle.assignment.proofs.Writes.{written_length}
use Rattle.assignment.proofs.groups.Groups.new.Goals as goal
use Rattle.assignment.proofs.groups.Groups.new.Goals.{then-has_row, else-has_row}

pub wagons-preserved : goal.wagons-preserved
wagons-preserved c =
    let seen = c.wagons.invariant.seen in
    elim c.if-has_row.branch [
      | then-has_row w ↦ rw (w.groups-is, w.seen-is) (record { groups = w.join.ensures.groups; room = w.join.ensures.room; seen = seen })
      | else-has_row w ↦ rw (w.groups-is, w.seen-is) (record { groups = w.begin.ensures.groups; room = w.begin.ensures.room; seen = (let slot = c.sample.result % c.len.result in let e = written_length c.wagons.seen.items (set c.wagons.seen.items slot w.len-else-has_row.result) slot w.len-else-has_row.result refl in omega (arith, seen, e)) })
    ]

pub returns : goal.returns
returns c =
    let count = c.wagons-wagons.ensures.count in
    let all : c.wagons.i ≡ wagon_count c.args.cells.now = omega (arith, count, c.wagons-test.false, c.wagons.auto.i-end) in
    subst (λ (n : ℕ). AreGrouped c.args.cells.now n c.wagons.groups) all c.wagons.invariant.groups
