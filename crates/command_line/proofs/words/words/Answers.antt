use Rattle.std.proofs.Common.{refl}
use Rattle.command_line.specs.Program.{words}
use Rattle.command_line.proofs.words.words.Goals as goal

-- the table's arguments are those of each word
pub returns : goal.returns
unfolding words
returns c = refl
