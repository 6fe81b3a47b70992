use Rattle.std.proofs.Common.{◌≡◌, ◌∙◌, ◌++◌, [], append_assoc, append-nil, ap, length, refl, sym, take}
use Rattle.std.specs.Prelude.{slice_index_or}
use Rattle.cost_table.specs.RowParts.{cells_in}
use Rattle.cost_table.specs.SharedRows.{rows_in, row_among}
use Rattle.cost_table.proofs.AmongLemmas.{prefix_of, row_of_place}
use Rattle.cost_table.proofs.table_rows.TableRows.push_along.Goals as goal

pub returns-clause-pushed : goal.returns-clause-pushed
returns-clause-pushed c =
    let other = c.args.other.now in
    let place = c.index-place.result.now in
    let row = c.row_at.result in
    let front = c.split_at.result.0 in
    let rest = c.args.rest.now in
    let cells = slice_index_or other.shared.value place.shared [] in
    let all : slice_index_or (rows_in other) c.args.i [] ≡ cells_in row =
    row_of_place other.shared.value other.own other.places.items c.args.i place c.requires.wagon
    ∙ (ap (row_among other.shared.value other.own) (sym c.index-place.ensures) ∙ rw (c.row_at.ensures.first, c.row_at.ensures.rest) refl) in
    let first : take (length front.first.now) cells ≡ front.first.now =
    prefix_of (length front.first.now) place.count cells (rw (← c.row_at.ensures.first) c.split_at.ensures.within)
    ∙ (ap (take (length front.first.now)) (sym c.row_at.ensures.first) ∙ c.split_at.ensures.prefix) in
    let goes : take c.args.count (slice_index_or (rows_in other) c.args.i []) ++ rest ≡ take (length front.first.now) (slice_index_or c.args.self.now.shared.value place.shared []) ++ ((front.rest.now ++ []) ++ rest) =
    rw (all, ← c.split_at.ensures.front, c.requires.shared, first, append-nil front.rest.now) (append_assoc front.first.now front.rest.now rest) in
    rw goes c.push_behind.ensures.pushed
