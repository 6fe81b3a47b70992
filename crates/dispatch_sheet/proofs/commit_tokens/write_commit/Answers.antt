use Rattle.std.proofs.Common.{◌++◌, ◌∷◌, [], codes, map, subst, ap, ap₂, ◌∙◌, arith}
use Rattle.std.specs.Prelude.{All}
use Rattle.std.proofs.lemmas.Result.{on_ok_weaker}
use Rattle.json.specs.Token.{end_object}
use Rattle.line_fields.specs.Written.{list_data, number_data, pair_data}
use Rattle.price_checker.specs.Snap.{named_pair}
use Rattle.dispatch_sheet.specs.Certificate.{commit_of}
use Rattle.dispatch_sheet.specs.inner.Readable.{AreReadablePrices, IsReadablePair}
use Rattle.line_fields.specs.WrittenTokens.{member_tokens}
use Rattle.dispatch_sheet.proofs.CommitTokens.{commit-written}
use Rattle.dispatch_sheet.proofs.commit_tokens.write_commit.Goals as goal

pub returns-clause-tokens : goal.returns-clause-tokens
returns-clause-tokens c =
    let commit = commit_of c.args.snap.now c.args.plan.now c.args.prices.now.u.items c.args.prices.now.v.items in
    let pairs =
    (c.in_ok-write_pairs.ensures {u = tt}).tokens
    ∙ ap₂ (λ problem positions. c.write_moment.new.out.tokens ++ member_tokens (codes "pairs") (list_data pair_data (map (named_pair problem) positions))) c.problem.ensures c.pairs.ensures.pairs in
    let u = (c.in_ok-write_prices.ensures {u = tt}).tokens ∙ ap (λ prices. c.write_type.new.out.tokens ++ member_tokens (codes "u") (list_data number_data prices)) c.deref.ensures.value in
    let v = (c.in_ok-write_prices-2.ensures {u = tt}).tokens ∙ ap (λ prices. c.write_prices.new.out.tokens ++ member_tokens (codes "v") (list_data number_data prices)) c.deref-2.ensures.value in
    on_ok_weaker c.write_version.result (λ last.
    commit-written commit c.args.at.now c.args.out.now.tokens c.write_moment.new.out.tokens c.write_pairs.new.out.tokens c.write_type.new.out.tokens c.write_prices.new.out.tokens c.write_prices-2.new.out.tokens c.write_version.new.out.tokens
    (c.in_ok-write_moment.ensures {u = tt}).tokens pairs (c.in_ok-write_type.ensures {u = tt}).tokens u v
    (last ∙ ap (λ version. c.write_prices-2.new.out.tokens ++ (member_tokens (codes "version") (number_data version) ++ end_object ∷ [])) c.version.ensures.value)) c.write_version.ensures.tokens

pub returns-clause-readable : goal.returns-clause-readable
returns-clause-readable c =
    on_ok_weaker c.write_version.result (λ _. record {
      version = omega (arith, c.version.ensures.value, c.version.ensures.limit);
      pairs = subst (All IsReadablePair) (ap₂ (λ problem positions. map (named_pair problem) positions) c.problem.ensures c.pairs.ensures.pairs) (c.in_ok-write_pairs.ensures {u = tt}).readable;
      u = subst AreReadablePrices c.deref.ensures.value c.write_prices.ensures.readable;
      v = subst AreReadablePrices c.deref-2.ensures.value c.write_prices-2.ensures.readable;
    }) c.write_version.ensures.tokens
