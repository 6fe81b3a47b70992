use Rattle.std.proofs.Common.{arith}
use Rattle.std.proofs.lemmas.Grind.{common_steps}
use Rattle.std.proofs.lemmas.Str.{IsUtf8-from_ascii}
use Rattle.office_files.proofs.stop.write_ascii.Goals as goal

pub unwrap-requires : goal.unwrap-requires
unwrap-requires g c = let utf8 = IsUtf8-from_ascii c.args.characters.now c.requires in grind (arith, common_steps, c.from_utf8.ensures.cases)
