use Rattle.std.proofs.Common.{◌≡◌, ◌++◌, take}
use Rattle.std.specs.Prelude.{All}
use Rattle.std.specs.List.{flat_map}
use Rattle.line_fields.specs.Written.{pair_data}
use Rattle.price_checker.specs.Snap.{named_pair}
use Rattle.dispatch_sheet.specs.inner.Readable.{IsReadablePair}
use Rattle.line_fields.specs.WrittenTokens.{data_tokens}
use Rattle.dispatch_sheet.proofs.commit_tokens.write_pairs.Given as goal

abbrev pub invariant-loop-i : goal.invariant-loop-i
invariant-loop-i l = record {
  tokens : l.out.tokens ≡ l.initial.out.tokens ++ flat_map (λ position. data_tokens (pair_data (named_pair l.problem position))) (take l.i-index l.positions);
  before : l.out.before ≡ l.initial.out.before;
  readable : All (λ position. IsReadablePair (named_pair l.problem position)) (take l.i-index l.positions);
}
