use Rattle.std.proofs.Common.{◌≡◌, ◌∷◌, [], ◌++◌, ap, ◌∙◌, rules}
use Rattle.std.proofs.lemmas.Result.{on_ok_weaker}
use Rattle.json.specs.Token.{begin_array}
use Rattle.line_fields.specs.WrittenTokens.{data_tokens}
use Rattle.line_fields.proofs.Writing.{holds-more, holds-whole}
use Rattle.line_fields.proofs.WrittenTokens.{items-more}
use Rattle.table_lines.proofs.WrittenLists.{items_written}
use Rattle.table_lines.proofs.written_lists.write_items.Goals as goal

pub loop-item-preserved : goal.loop-item-preserved
loop-item-preserved g c =
    let items = c.args.items.now in
    let i = c.loop-item.item-index in
    let item = c.item-item.result in
    let written = c.in_ok-write.ensures {u = tt} in
    record {
      tokens =
          written.tokens ∙ ap (λ x. c.loop-item.out.tokens ++ data_tokens (g.T.ListItem.json x)) c.item-item.is
          ∙ items-more (λ x. data_tokens (g.T.ListItem.json x)) items i item c.begin_array.new.self.tokens c.loop-item.out.tokens c.loop-item-test.true c.loop-item.invariant.tokens;
      before = written.before ∙ c.loop-item.invariant.before;
      holds = holds-more g.T.ListItem.holds items i item c.loop-item-test.true c.item-item.is c.loop-item.invariant.holds written.holds;
    }

pub returns-clause-tokens : goal.returns-clause-tokens
returns-clause-tokens g c =
    let begun : c.begin_array.new.self.tokens ≡ c.args.out.now.tokens ++ begin_array ∷ [] = search rules in
    on_ok_weaker c.end_array.result (λ last.
    items_written g.T.ListItem.json c.args.items.now c.loop-item.item-index c.args.out.now.tokens c.begin_array.new.self.tokens c.loop-item.out.tokens c.end_array.new.self.tokens
    c.loop-item-test.false begun c.loop-item.invariant.tokens last) c.end_array.ensures.ok

pub returns-clause-holds : goal.returns-clause-holds
returns-clause-holds g c =
    let all = holds-whole g.T.ListItem.holds c.args.items.now c.loop-item.item-index c.loop-item-test.false c.loop-item.invariant.holds in
    on_ok_weaker c.end_array.result (λ _. all) c.end_array.ensures.ok
