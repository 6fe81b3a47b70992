use Rattle.plan_reasons.proofs.JsonTexts.{order_texts_are_json, wagon_texts_are_json, why_texts_are_json}
use Rattle.plan_reasons.proofs.laws.texts_are_lines_of_json.Goals as goal

pub returns-clause-whole : goal.returns-clause-whole
returns-clause-whole c = why_texts_are_json

pub returns-clause-orders : goal.returns-clause-orders
returns-clause-orders c = order_texts_are_json

pub returns-clause-wagons : goal.returns-clause-wagons
returns-clause-wagons c = wagon_texts_are_json
