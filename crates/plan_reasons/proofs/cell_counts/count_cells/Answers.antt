use Rattle.std.proofs.Common.{◌+◌, ◌∙◌, ℕ, Bool, cond, get_or, take, refl, ap, subst, arith}
use Rattle.std.specs.Prelude.{nat_lt, slice_index}
use Rattle.std.proofs.lemmas.List.{take_all}
use Rattle.plan_reasons.specs.inner.Tallied.{AreMore, below_in_row, is_cell_below}
use Rattle.plan_reasons.proofs.Counted.{bool_byte-cond}
use Rattle.plan_reasons.proofs.CellCounts.{cell_elsewhere, cell_here, cell_within, counted_more, more_at}
use Rattle.plan_reasons.proofs.cell_counts.count_cells.Goals as goal

pub bounds-limits-j : goal.bounds-limits-j
bounds-limits-j c = cell_within _ 0 c.args.row.now c.loop-cell.cell-index (0, 0) c.requires.row c.loop-cell-test.true

pub bounds-counts-j : goal.bounds-counts-j
bounds-counts-j c =
    let within = cell_within _ 0 c.args.row.now c.loop-cell.cell-index (0, 0) c.requires.row c.loop-cell-test.true in
    omega (arith, within, c.requires.counts, c.loop-cell.auto.counts)

pub bounds-counts-j-in-loop-cell : goal.bounds-counts-j-in-loop-cell
bounds-counts-j-in-loop-cell c =
    let within = cell_within _ 0 c.args.row.now c.loop-cell.cell-index (0, 0) c.requires.row c.loop-cell-test.true in
    omega (arith, within, c.requires.counts, c.loop-cell.auto.counts)

pub loop-cell-preserved : goal.loop-cell-preserved
loop-cell-preserved c =
    let row = c.args.row.now in
    let limits = c.args.limits.now in
    let i = c.loop-cell.cell-index in
    let cell : ℕ × ℕ = get_or row i (0, 0) in
    let more = λ (j : ℕ). counted_more (is_cell_below limits j) row i cell (0, 0) c.loop-cell-test.true refl in
    let as_number : Bool → ℕ = λ b. cond b 1 0 in
    let one = c.from-in-loop-cell.ensures ∙ bool_byte-cond _ ∙ ap (λ (km : ℕ). as_number (nat_lt km (slice_index limits cell.0))) c.from.ensures in
    let within = cell_within _ 0 row i (0, 0) c.requires.row c.loop-cell-test.true in
    more_at _ (λ j. slice_index c.args.counts.now j + below_in_row (take i row) limits j) (λ j. slice_index c.args.counts.now j + below_in_row (take (i + 1) row) limits j) c.loop-cell.counts _ cell.0 _ c.loop-cell.invariant (omega (arith, within, c.requires.counts)) refl
    (omega (arith, more cell.0, one, ap as_number (cell_here limits cell)))
    (λ j apart. omega (arith, more j, ap as_number (cell_elsewhere limits j cell apart)))

pub returns : goal.returns
returns c =
    let all = take_all c.loop-cell.cell-index c.args.row.now c.loop-cell-test.false in
    subst (λ (row : _). AreMore (below_in_row row c.args.limits.now) c.args.counts.now c.loop-cell.counts) all c.loop-cell.invariant
