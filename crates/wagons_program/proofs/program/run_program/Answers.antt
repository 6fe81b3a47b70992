use Rattle.std.proofs.Common.{sym}
use Rattle.wagons_program.proofs.program.run_program.Goals as goal

-- the words are those that were handed in, and the input is the terminal's
pub returns-in-Ok-clause-read : goal.returns-in-Ok-clause-read
returns-in-Ok-clause-read g c = rw (c.in-Ok.is, sym c.new-input.ensures, sym c.as_slice.ensures.value) c.run_words.ensures
