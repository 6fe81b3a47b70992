use Rattle.std.proofs.Common.{◌∙◌, ℕ, codes, subst, sym}
use Rattle.command_line.specs.Values.{IsNumberOf, given_in}
use Rattle.command_line.proofs.ValueLemmas.{limits_are}
use Rattle.price_checker.specs.Limits.{max_entries, max_kept_problems}
use Rattle.command_line.proofs.office_options.limits_of.Goals as goal

pub returns : goal.returns
returns c =
    let given = given_in c.args.matches.now in
    let same = limits_are c.number_of-entries.result c.number_of-kept.result c.unwrap.result (sym c.new.ensures ∙ c.unwrap.ensures) in
    record {
      entries = subst (λ (n : ℕ). IsNumberOf (codes "entries") max_entries given n) same.0 c.number_of-entries.ensures.number;
      kept = subst (λ (n : ℕ). IsNumberOf (codes "kept") max_kept_problems given n) same.1 c.number_of-kept.ensures.number;
    }
