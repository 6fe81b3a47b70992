use Rattle.std.proofs.Common.{◌∙◌, ap}
use Rattle.std.proofs.lemmas.Result.{IfOk-weaker}
use Rattle.wagons_and_orders.specs.Wanted.{WantedOrder}
use Rattle.std.specs.Prelude.{List, map}
use Rattle.journal_notes.proofs.Waiting.{names_waiting}
use Rattle.journal_notes.proofs.office_notes.waiting_names.Goals as goal

pub returns : goal.returns
returns c =
    IfOk-weaker c.wanted_names.result _ _
    (λ names is. is ∙ ap (λ (orders : List WantedOrder). map (λ (wanted : WantedOrder). wanted.order.id) orders) (rw c.in_ok-problem.ensures at c.orders.ensures.orders) ∙ names_waiting c.args.state.now.office.orders) c.wanted_names.ensures
