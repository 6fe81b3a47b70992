use Rattle.std.proofs.Common.{◌∙◌}
use Rattle.std.specs.Str.Parse.{ExplainsUnsignedError, HasUnsignedDigitsIfOk, ParsesUnsigned}
use Rattle.clap.proofs.WalkLemmas.{one_text-rows}
use Rattle.clap.specs.Matches.{found_of}
use Rattle.command_line.specs.Values.{given_in, number_in, read_value_of}
use Rattle.command_line.proofs.ValueLemmas.{clamped, number_read}
use Rattle.command_line.proofs.values.number_of.Goals as goal

pub returns-clause-number : goal.returns-clause-number
unfolding given_in read_value_of
returns-clause-number c = record {
  is = λ text given says low high.
      let read = c.get_one.ensures.value text (one_text-rows (found_of c.args.matches.now) c.args.name.now ∙ given) in
      let number = number_read (λ bs r. ParsesUnsigned 64 10 bs r × ExplainsUnsignedError 10 bs r × HasUnsignedDigitsIfOk bs r) text c.get_one.result read (λ x gives. gives.0) says in
      clamped c.get_one.result (number_in text) c.args.most c.unwrap_or.result c.clamp.result number low high c.unwrap_or.ensures c.clamp.ensures;
}
