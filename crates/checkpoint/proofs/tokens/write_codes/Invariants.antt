use Rattle.std.proofs.Common.{◌≡◌, ◌++◌, take, Ok}
use Rattle.std.specs.Prelude.{All}
use Rattle.std.specs.List.{flat_map}
use Rattle.serde_json.specs.Data.{string}
use Rattle.line_fields.specs.WrittenTokens.{data_tokens}
use Rattle.checkpoint.proofs.tokens.write_codes.Given as goal

abbrev pub invariant-loop-code : goal.invariant-loop-code
invariant-loop-code g l = record {
  tokens : l.out.tokens ≡ l.initial.out.tokens ++ flat_map (λ code. data_tokens (string code)) (take l.code-index l.items);
  before : l.out.before ≡ l.initial.out.before;
  read : All (λ code. g.S.Shape.code_of code ≡ Ok code) (take l.code-index l.items);
}
