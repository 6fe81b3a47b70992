use Rattle.std.proofs.lemmas.Result.{IfOk-weaker}
use Rattle.command_line.specs.inner.Tables.{shape_for}
use Rattle.command_line.proofs.LineLemmas.{word_added}
use Rattle.command_line.proofs.words.with_ungrouped_word.Goals as goal

pub returns : goal.returns
returns c =
    IfOk-weaker c.subcommand.result _ _ (λ line added. word_added (shape_for c.args.help) c.args.line c.in_ok-word.word line c.in_ok-word.ensures added) c.subcommand.ensures
