use Rattle.std.proofs.Common.{◌≡◌, ℕ, Option, Some, rules}
use Rattle.cost_table.specs.Names.{pair_of}
use Rattle.cost_table.proofs.NameLemmas.{found_pair, held_pair}
use Rattle.cost_table.proofs.names.Names.pair_of.Goals as goal

pub returns-in_err-i-clause-held : goal.returns-in_err-i-clause-held
returns-in_err-i-clause-held c =
    let value : c.from_residual.result ≡ pair_of c.args.self.now c.args.number c.args.id = search rules in
    held_pair _ c.args.self.now c.args.number c.args.id c.from_residual.result c.self.view_is c.self.invariant value

pub returns-in_err-j-clause-held : goal.returns-in_err-j-clause-held
returns-in_err-j-clause-held c =
    let value : c.from_residual-in_err-j.result ≡ pair_of c.args.self.now c.args.number c.args.id = search rules in
    held_pair _ c.args.self.now c.args.number c.args.id c.from_residual-in_err-j.result c.self.view_is c.self.invariant value

pub returns-clause-found : goal.returns-clause-found
returns-clause-found c =
    let answer : Option (ℕ × ℕ) = Some (c.in_ok-i.i, c.in_ok-j.j) in
    let value : answer ≡ pair_of c.args.self.now c.args.number c.args.id = search rules in
    found_pair c.args.self.now c.args.number c.args.id answer value

pub returns-clause-held : goal.returns-clause-held
returns-clause-held c =
    let answer : Option (ℕ × ℕ) = Some (c.in_ok-i.i, c.in_ok-j.j) in
    let value : answer ≡ pair_of c.args.self.now c.args.number c.args.id = search rules in
    held_pair _ c.args.self.now c.args.number c.args.id answer c.self.view_is c.self.invariant value
