use Rattle.std.proofs.Common.{◌≡◌, Some, None, arith}
use Rattle.json.specs.Json.{after_end_array}
use Rattle.table_lines.proofs.Spelled.{begins, goes_on, is_over}
use Rattle.table_lines.proofs.tokens.take_items.Goals as goal

pub items-init : goal.items-init
items-init g c = begins (g.K.TokenKind.nests c.args.kind.now) (g.K.TokenKind.reads c.args.kind.now) c.in-Ok.found.items c.args.reader.now c.in-Ok.ensures.items

pub items-preserved : goal.items-preserved
items-preserved g c =
    let going : (after_end_array c.items.reader ≡ None) × (c.take_end_array.new.self ≡ c.items.reader) = grind arith in
    let item = c.in_ok-item.ensures in
    goes_on (g.K.TokenKind.nests c.args.kind.now) (g.K.TokenKind.reads c.args.kind.now) c.items.found.items c.push.new.self.items c.args.reader.now c.items.reader c.take.new.reader c.in_ok-item.item
    c.items.invariant going.0 (rw (← going.1) item.value) (rw (← going.1) item.shorter) c.in-Ok-push.ensures.items

pub returns-clause-value : goal.returns-clause-value
returns-clause-value g c =
    let over : after_end_array c.items.reader ≡ Some c.take_end_array.new.self = grind arith in
    is_over (g.K.TokenKind.nests c.args.kind.now) (g.K.TokenKind.reads c.args.kind.now) c.items.found.items c.args.reader.now c.items.reader c.take_end_array.new.self c.items.invariant over
