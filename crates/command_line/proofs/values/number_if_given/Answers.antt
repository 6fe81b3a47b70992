use Rattle.std.proofs.Common.{◌∙◌}
use Rattle.std.specs.Str.Parse.{ExplainsUnsignedError, HasUnsignedDigitsIfOk, ParsesUnsigned}
use Rattle.clap.proofs.WalkLemmas.{one_text-rows}
use Rattle.clap.specs.Matches.{found_of}
use Rattle.command_line.specs.Values.{given_in, read_value_of}
use Rattle.command_line.proofs.ValueLemmas.{number_read}
use Rattle.command_line.proofs.values.number_if_given.Goals as goal

pub returns : goal.returns
unfolding given_in read_value_of
returns c =
    let reads = one_text-rows (found_of c.args.matches.now) c.args.name.now in
    record {
      is = λ text given says.
          number_read (λ bs r. ParsesUnsigned 64 10 bs r × ExplainsUnsignedError 10 bs r × HasUnsignedDigitsIfOk bs r) text c.get_one.result (c.get_one.ensures.value text (reads ∙ given)) (λ x gives. gives.0) says;
      missing = λ none. c.get_one.ensures.none (reads ∙ none);
    }
