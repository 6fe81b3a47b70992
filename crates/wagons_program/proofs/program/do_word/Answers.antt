use Rattle.std.proofs.lemmas.Result.{IfOk-weaker}
use Rattle.wagons_program.proofs.Printed.{fed_beside}
use Rattle.wagons_program.proofs.program.do_word.Goals as goal

pub returns-in-Feed-clause-ok : goal.returns-in-Feed-clause-ok
returns-in-Feed-clause-ok g c =
    rw c.in-Feed.is (IfOk-weaker c.feed.result _ _ (λ status fed. fed_beside _ _ _ _ (g.I.Read.remaining c.args.input) _ _ status fed) c.feed.ensures.ok)
