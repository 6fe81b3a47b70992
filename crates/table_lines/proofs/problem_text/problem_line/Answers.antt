use Rattle.std.proofs.Common.{Ok, ap, ◌∙◌, string_bytes, []}
use Rattle.std.proofs.lemmas.Result.{IfOk-weaker}
use Rattle.table_lines.specs.TableLine.{TableText, with_plan}
use Rattle.table_lines.specs.UnplannedText.{unplanned_text}
use Rattle.table_lines.proofs.ProblemStated.{states_problem}
use Rattle.table_lines.proofs.problem_text.problem_line.Goals as goal

pub returns-clause-text : goal.returns-clause-text
returns-clause-text c = IfOk-weaker c.unplanned_line.result _ _ (λ line h. h ∙ ap unplanned_text c.in_ok-table.ensures.table) c.unplanned_line.ensures.text

pub returns-clause-reads : goal.returns-clause-reads
returns-clause-reads c =
    IfOk-weaker c.unplanned_line.result _ _
    (λ line h. states_problem c.args.problem.now c.args.cells.now (string_bytes line) c.for_the_prover.ensures c.for_the_prover-2.ensures c.requires.wagons c.requires.orders
    (h ∙ ap (λ (t : TableText). Ok (with_plan t [] [] [])) c.in_ok-table.ensures.table))
    c.unplanned_line.ensures.reads
