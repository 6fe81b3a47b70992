use Rattle.std.proofs.Common.{◌≡◌, ◌++◌, take}
use Rattle.std.specs.List.{flat_map}
use Rattle.line_fields.specs.Written.{number_data}
use Rattle.line_fields.specs.WrittenTokens.{data_tokens}
use Rattle.dispatch_sheet.proofs.commit_tokens.write_prices.Given as goal

abbrev pub invariant-loop-price : goal.invariant-loop-price
invariant-loop-price l = record {
  tokens : l.out.tokens ≡ l.initial.out.tokens ++ flat_map (λ price. data_tokens (number_data price)) (take l.price-index l.prices);
  before : l.out.before ≡ l.initial.out.before;
}
