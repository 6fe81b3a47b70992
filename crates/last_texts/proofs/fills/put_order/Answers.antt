use Rattle.std.specs.BTreeMap.{get}
use Rattle.fleet_rows.specs.Kept.{compare_numbers}
use Rattle.last_texts.proofs.FillLemmas.{put}
use Rattle.last_texts.proofs.fills.put_order.Goals as goal

pub returns : goal.returns
returns c =
    put c.args.filled.now (get compare_numbers c.args.late_fills.now) (get compare_numbers c.insert.new.self) (λ order. c.in_ok-insert.ensures.updates.0 order)
