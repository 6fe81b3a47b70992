use Rattle.std.proofs.Common.{◌≡◌, ◌∷◌, [], ◌++◌, arith, rules}
use Rattle.std.proofs.lemmas.Grind.{get_or_default_zero}
use Rattle.std.proofs.lemmas.Result.{on_ok_weaker}
use Rattle.json.specs.Token.{begin_array, key}
use Rattle.line_fields.specs.Written.{list_data, number_data}
use Rattle.line_fields.specs.WrittenTokens.{data_tokens}
use Rattle.line_fields.proofs.WrittenTokens.{list-tokens, list-written}
use Rattle.dispatch_sheet.proofs.commit_tokens.write_prices.Goals as goal

pub returns-clause-tokens : goal.returns-clause-tokens
returns-clause-tokens c =
    let prices = c.args.prices.now in
    let named : c.key.new.self.tokens ≡ c.args.out.now.tokens ++ key c.args.name.now ∷ [] = search rules in
    let begun : c.begin_array.new.self.tokens ≡ c.key.new.self.tokens ++ begin_array ∷ [] = search rules in
    on_ok_weaker c.end_array.result (λ last.
    list-written (λ price. data_tokens (number_data price)) prices (list_data number_data prices) c.loop-price.price-index c.args.name.now
    c.args.out.now.tokens c.key.new.self.tokens c.begin_array.new.self.tokens c.loop-price.out.tokens c.end_array.new.self.tokens
    (list-tokens number_data prices) c.loop-price-test.false named begun c.loop-price.invariant.tokens last) c.end_array.ensures.ok

pub returns-clause-readable : goal.returns-clause-readable
returns-clause-readable c = λ k d lt. omega (arith, c.type_inv.prices k, get_or_default_zero c.args.prices.now k d lt)
