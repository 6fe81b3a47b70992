use Rattle.std.proofs.Common.{Ok, Err}
use Rattle.wagons_program.proofs.Outcomes.{exit_of_word}
use Rattle.wagons_program.proofs.program.run_words.Goals as goal

pub returns-in-Ok : goal.returns-in-Ok
returns-in-Ok g c = (Ok c.in-Ok.word, c.in-Ok.ensures, exit_of_word c.do_word.result _ _ _ c.told.ensures c.do_word.ensures.ok c.do_word.ensures.err)

pub returns-in-Err : goal.returns-in-Err
returns-in-Err g c = (Err c.in-Err.error, tt, exit_of_word c.print_text.result _ _ _ c.told-in-Err.ensures c.print_text.ensures.ok c.print_text.ensures.err)
