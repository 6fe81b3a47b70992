use Rattle.std.proofs.Common.{ℕ, codes, subst}
use Rattle.command_line.specs.Values.{IsNumberOf, given_in}
use Rattle.command_line.proofs.ValueLemmas.{limit_is}
use Rattle.line_engine.specs.Lines.{largest_line_limit}
use Rattle.command_line.proofs.line_options.LineOptions.read.Goals as goal

pub returns : goal.returns
returns c =
    let same = limit_is c.new.result c.unwrap.result c.number_of-bytes.result c.new.ensures.kept c.unwrap.ensures in
    record { limit = subst (λ (n : ℕ). IsNumberOf (codes "line-bytes") largest_line_limit (given_in c.args.matches.now) n) same c.number_of-bytes.ensures.number }
