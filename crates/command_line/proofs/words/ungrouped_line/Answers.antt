use Rattle.std.proofs.Common.{arith}
use Rattle.command_line.proofs.LineLemmas.{all_words, no_words, words_more}
use Rattle.command_line.proofs.words.ungrouped_line.Goals as goal

pub loop-help-init : goal.loop-help-init
loop-help-init c = no_words c.words-words.result c.in_ok-line.line c.in_ok-line.ensures

pub loop-help-preserved : goal.loop-help-preserved
loop-help-preserved c =
    words_more c.words-words.result c.loop-help.help-index _ c.loop-help.line c.in_ok-line-2.line (omega arith) c.loop-help.invariant c.in_ok-line-2.ensures

pub returns : goal.returns
returns c = all_words c.words-words.result c.loop-help.help-index c.loop-help.line (omega arith) c.words-words.ensures c.loop-help.invariant
