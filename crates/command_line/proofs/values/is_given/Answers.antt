use Rattle.std.proofs.Common.{◌∙◌}
use Rattle.clap.proofs.WalkLemmas.{one_text-rows}
use Rattle.clap.specs.Matches.{found_of}
use Rattle.command_line.specs.Values.{given_in, read_value_of}
use Rattle.command_line.proofs.values.is_given.Goals as goal

pub returns : goal.returns
unfolding given_in read_value_of
returns c =
    let reads = one_text-rows (found_of c.args.matches.now) c.args.name.now in
    record {
      on = λ is. c.get_flag.ensures.value (reads ∙ is);
      off = λ is. c.get_flag.ensures.other (reads ∙ is);
      missing = λ is. c.get_flag.ensures.none (reads ∙ is);
    }
