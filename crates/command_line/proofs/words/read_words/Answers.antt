use Rattle.std.proofs.Common.{◌∙◌, IfOk, ap, map, subst}
use Rattle.clap.specs.Simple.{App, is_simple, subcommand_of}
use Rattle.command_line.specs.Words.{IsAskedBy, IsWordFor}
use Rattle.command_line.proofs.LineLemmas.{program_is_simple}
use Rattle.command_line.proofs.words.read_words.Goals as goal

pub returns : goal.returns
unfolding IsAskedBy
returns g c =
    let texts = map g.S.AsStr.text c.args.words.now in
    let line_is = c.in_ok-ungrouped_line.ensures in
    let matched = (c.in_ok-matches.ensures.matches (ap is_simple line_is ∙ program_is_simple)).1 ∙ ap (λ (a : App). subcommand_of a texts) line_is in
    subst (λ o. IfOk c.read_matches.result (IsWordFor o)) matched c.read_matches.ensures
