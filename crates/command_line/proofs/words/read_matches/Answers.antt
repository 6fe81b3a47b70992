use Rattle.std.proofs.Common.{IfOk, subst, sym}
use Rattle.command_line.specs.Words.{IsWordFor}
use Rattle.command_line.proofs.LineLemmas.{named_word, no_word}
use Rattle.command_line.proofs.words.read_matches.Goals as goal

pub returns-in-Some : goal.returns-in-Some
returns-in-Some c =
    let named = named_word c.args.matches.now c.in-Some.options.now c.in-Some.name.now c.in-Some.ensures.name c.in-Some.ensures.rows in
    subst (λ o. IfOk c.read_word.result (IsWordFor o)) (sym named) c.read_word.ensures

pub returns-in-None : goal.returns-in-None
returns-in-None c = rw (no_word c.args.matches.now c.in-None.ensures.variant) c.standard.ensures
