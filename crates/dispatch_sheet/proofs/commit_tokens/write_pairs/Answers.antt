use Rattle.std.proofs.Common.{◌≡◌, ℕ, List, ◌∷◌, [], ◌++◌, get_or, codes, map, subst, ap, ap₂, ◌∙◌, rules}
use Rattle.std.proofs.lemmas.List.Elements.{All-map, All-more}
use Rattle.std.proofs.lemmas.Result.{on_ok_weaker}
use Rattle.json.specs.Token.{begin_array, key}
use Rattle.line_fields.specs.Written.{list_data, pair_data}
use Rattle.line_fields.proofs.Writing.{holds-whole}
use Rattle.price_checker.specs.Snap.{named_pair}
use Rattle.dispatch_sheet.specs.inner.Readable.{IsReadablePair}
use Rattle.line_fields.specs.WrittenTokens.{data_tokens}
use Rattle.line_fields.proofs.WrittenTokens.{items-more, list-written, named_list-tokens}
use Rattle.dispatch_sheet.proofs.commit_tokens.write_pairs.Goals as goal

pub loop-i-preserved : goal.loop-i-preserved
loop-i-preserved c =
    let name = named_pair c.args.problem.now in
    let positions = c.args.positions.now in
    let i = c.loop-i.i-index in
    let same : (c.wagon_name.result, c.order_name.result) ≡ name (get_or positions i (0, 0)) = ap₂ (λ (w o : List ℕ). (w, o)) c.wagon_name.ensures c.order_name.ensures in
    let written = c.in_ok-write_pair.ensures {u = tt} in
    record {
      tokens =
          written.tokens ∙ ap (λ pair. c.loop-i.out.tokens ++ data_tokens (pair_data pair)) same
          ∙ items-more (λ position. data_tokens (pair_data (name position))) positions i (0, 0) c.begin_array.new.self.tokens c.loop-i.out.tokens c.loop-i-test.true c.loop-i.invariant.tokens;
      before = written.before ∙ c.loop-i.invariant.before;
      readable = All-more (λ position. IsReadablePair (name position)) positions i (0, 0) c.loop-i-test.true c.loop-i.invariant.readable (subst IsReadablePair same written.readable);
    }

pub returns-clause-tokens : goal.returns-clause-tokens
returns-clause-tokens c =
    let name = named_pair c.args.problem.now in
    let positions = c.args.positions.now in
    let named : c.key.new.self.tokens ≡ c.args.out.now.tokens ++ key (codes "pairs") ∷ [] = search rules in
    let begun : c.begin_array.new.self.tokens ≡ c.key.new.self.tokens ++ begin_array ∷ [] = search rules in
    on_ok_weaker c.end_array.result (λ last.
    list-written (λ position. data_tokens (pair_data (name position))) positions (list_data pair_data (map name positions)) c.loop-i.i-index (codes "pairs")
    c.args.out.now.tokens c.key.new.self.tokens c.begin_array.new.self.tokens c.loop-i.out.tokens c.end_array.new.self.tokens
    (named_list-tokens pair_data name positions) c.loop-i-test.false named begun c.loop-i.invariant.tokens last) c.end_array.ensures.ok

pub returns-clause-readable : goal.returns-clause-readable
returns-clause-readable c =
    let name = named_pair c.args.problem.now in
    let readable = holds-whole (λ position. IsReadablePair (name position)) c.args.positions.now c.loop-i.i-index c.loop-i-test.false c.loop-i.invariant.readable in
    on_ok_weaker c.end_array.result (λ _. All-map IsReadablePair name c.args.positions.now readable) c.end_array.ensures.ok
