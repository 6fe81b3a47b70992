use Rattle.std.proofs.Common.{◌≡◌, ◌∷◌, arith}
use Rattle.json.specs.Token as token
use Rattle.table_lines.proofs.Spelled.{cell_is_spelled, no_cell_spelled}
use Rattle.table_lines.proofs.tokens.CellTokenTokenKind.take.Goals as goal

pub returns-in-Null-clause-value : goal.returns-in-Null-clause-value
returns-in-Null-clause-value c =
    let first : c.args.reader.now ≡ token.null ∷ c.next.new.self = grind arith in
    no_cell_spelled c.args.reader.now c.next.new.self first

pub returns-then-cost-le-MAX_COST-clause-value : goal.returns-then-cost-le-MAX_COST-clause-value
returns-then-cost-le-MAX_COST-clause-value c =
    let first : c.args.reader.now ≡ token.number c.in-Number.text.now ∷ c.next.new.self = grind arith in
    cell_is_spelled c.args.reader.now c.next.new.self c.in-Number.text.now c.in_ok-cost-in-Number.cost first c.in_ok-cost-in-Number.ensures (omega arith)
