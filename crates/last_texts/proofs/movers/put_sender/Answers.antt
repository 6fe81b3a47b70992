use Rattle.std.specs.BTreeMap.{get}
use Rattle.fleet_rows.specs.Kept.{compare_numbers}
use Rattle.last_texts.proofs.MoverLemmas.{noted}
use Rattle.last_texts.proofs.movers.put_sender.Goals as goal

pub returns : goal.returns
returns c =
    noted c.args.message.now (get compare_numbers c.args.movers.now) (get compare_numbers c.insert.new.self) (λ number. c.in_ok-insert.ensures.updates.0 number)
