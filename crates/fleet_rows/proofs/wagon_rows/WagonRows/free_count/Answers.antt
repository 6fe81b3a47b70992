use Rattle.std.proofs.Common.{◌≡◌, ◌∙◌, ap, count_by, rules}
use Rattle.fleet_rows.proofs.EmptyCounts.{free_counted, unpromised_at}
use Rattle.fleet_rows.proofs.wagon_rows.WagonRows.free_count.Goals as goal

pub returns : goal.returns
returns c =
    let counted : c.count.result ≡ count_by (unpromised_at c.as_slice-rows.result.now) c.empty_at.result.now = search rules in
    counted ∙ (ap (count_by (unpromised_at c.as_slice-rows.result.now)) c.empty_at.ensures.rows
    ∙ rw c.as_slice-rows.ensures.rows (free_counted c.args.class c.args.place c.args.self.now))
