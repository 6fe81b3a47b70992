use Rattle.std.proofs.Common.{◌≡◌, ◌∷◌, [], ◌++◌, ap, ◌∙◌, Ok, rules}
use Rattle.std.proofs.lemmas.Result.{on_ok_weaker}
use Rattle.json.specs.Token.{begin_array, key}
use Rattle.serde_json.specs.Data.{string}
use Rattle.line_fields.specs.Written.{list_data}
use Rattle.line_fields.specs.WrittenTokens.{data_tokens}
use Rattle.line_fields.proofs.Writing.{holds-more, holds-whole}
use Rattle.line_fields.proofs.WrittenTokens.{items-more, list-tokens, list-written}
use Rattle.checkpoint.proofs.tokens.write_codes.Goals as goal

pub loop-code-preserved : goal.loop-code-preserved
loop-code-preserved g c =
    let items = c.args.items.now in
    let i = c.loop-code.code-index in
    let code = c.code-item.result in
    let added : c.string.new.self.tokens ≡ c.loop-code.out.tokens ++ data_tokens (string c.code_str.result.now) = search rules in
    let same = c.code_str.ensures.value ∙ c.code-item.is in
    record {
      tokens =
          added ∙ ap (λ text. c.loop-code.out.tokens ++ data_tokens (string text)) same
          ∙ items-more (λ text. data_tokens (string text)) items i code c.begin_array.new.self.tokens c.loop-code.out.tokens c.loop-code-test.true c.loop-code.invariant.tokens;
      before = search rules;
      read = holds-more (λ text. g.S.Shape.code_of text ≡ Ok text) items i code c.loop-code-test.true c.code-item.is c.loop-code.invariant.read c.code_str.ensures.reads;
    }

pub returns-clause-tokens : goal.returns-clause-tokens
returns-clause-tokens g c =
    let items = c.args.items.now in
    let named : c.key.new.self.tokens ≡ c.args.out.now.tokens ++ key c.args.name.now ∷ [] = search rules in
    let begun : c.begin_array.new.self.tokens ≡ c.key.new.self.tokens ++ begin_array ∷ [] = search rules in
    on_ok_weaker c.end_array.result (λ last.
    list-written (λ code. data_tokens (string code)) items (list_data string items) c.loop-code.code-index c.args.name.now
    c.args.out.now.tokens c.key.new.self.tokens c.begin_array.new.self.tokens c.loop-code.out.tokens c.end_array.new.self.tokens
    (list-tokens string items) c.loop-code-test.false named begun c.loop-code.invariant.tokens last) c.end_array.ensures.ok

pub returns-clause-read : goal.returns-clause-read
returns-clause-read g c =
    let read = holds-whole (λ code. g.S.Shape.code_of code ≡ Ok code) c.args.items.now c.loop-code.code-index c.loop-code-test.false c.loop-code.invariant.read in
    on_ok_weaker c.end_array.result (λ _. read) c.end_array.ensures.ok
