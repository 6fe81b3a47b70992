use Rattle.price_checker.proofs.Duality.{certificates_tight}
use Rattle.dispatch_sheet.proofs.plan_lines.certified_plan_text.Goals as goal

pub text_of_plan-requires-clause-plan : goal.text_of_plan-requires-clause-plan
text_of_plan-requires-clause-plan c = c.requires.certificate.plan

pub text_of_plan-requires-clause-tight : goal.text_of_plan-requires-clause-tight
text_of_plan-requires-clause-tight c =
    certificates_tight c.args.cells.now c.args.plan.now c.args.prices.now.u.items c.args.prices.now.v.items c.requires.certificate
