use Rattle.std.proofs.Common.{◌∙◌, [], ap, unwrap_or}
use Rattle.std.proofs.lemmas.Result.{IfOk-weaker}
use Rattle.clap.proofs.WalkLemmas.{raw_values-rows}
use Rattle.clap.specs.Matches.{found_of}
use Rattle.command_line.specs.Values.{all_lent, given_in, values_of}
use Rattle.command_line.proofs.values.values_of.Goals as goal

pub returns-in-Some : goal.returns-in-Some
unfolding given_in values_of
returns-in-Some c =
    let all = ap (λ o. unwrap_or o []) (c.in-Some.ensures ∙ raw_values-rows (found_of c.args.matches.now) c.args.name.now) in
    IfOk-weaker c.from_slice.result _ _ (λ values copied. ap all_lent copied ∙ all) c.from_slice.ensures.items

pub returns-in-None : goal.returns-in-None
unfolding given_in values_of
returns-in-None c =
    ap all_lent c.new.ensures.items ∙ ap (λ o. unwrap_or o []) (c.in-None.ensures ∙ raw_values-rows (found_of c.args.matches.now) c.args.name.now)
