use Rattle.std.proofs.lemmas.Result.{on_ok_weaker}
use Rattle.dispatch_sheet.proofs.Moments.{wagon_line}
use Rattle.dispatch_sheet.proofs.wagon_line.WagonRowLined.push_line.Goals as goal

pub returns : goal.returns
returns c = on_ok_weaker c.push_wagon_back.result (λ last. wagon_line c.args.self.now _ _ _ _ c.in_ok-push_wagon_front.ensures c.in_ok-push_moment.ensures last) c.push_wagon_back.ensures
