use Rattle.std.proofs.Common.{◌≡◌, ◌∙◌, ℕ, List, length, subst, rules, arith}
use Rattle.std.proofs.lemmas.Grind.{common_steps}
use Rattle.std.proofs.lemmas.Result.{err_from_is_err_and}
use Rattle.std.specs.Borrow.{Bor}
use Rattle.line_network.specs.NetworkCount.{IsNetworkCount}
use Rattle.office_files.specs.FirstOffice.{AreNetworksAt, BeginsWith}
use Rattle.office_files.specs.Refused.{AreNetworksRefused, networks_refused}
use Rattle.office_files.proofs.first_office.read_files.Goals as goal

pub returns-clause-files : goal.returns-clause-files
returns-clause-files g c =
    let same : c.len-count.result ≡ length c.in_ok-networks.networks.items = first_of (grind (arith, common_steps), search rules) in
    record {
      begins = subst (λ (n : ℕ). BeginsWith (g.S.FileSystem.bytes_at c.args.rt.now) n c.args.options.now.start c.in_ok-first.first.office) same c.in_ok-first.ensures.begins;
      networks_are = subst (λ (paths : List (Bor (List ℕ))). AreNetworksAt (g.S.FileSystem.bytes_at c.args.rt.now) paths c.in_ok-networks.networks.items) c.deref.ensures.value c.in_ok-networks.ensures.networks;
    }

pub returns-clause-counted : goal.returns-clause-counted
returns-clause-counted g c =
    let same : c.len-count.result ≡ length c.in_ok-networks.networks.items = first_of (grind (arith, common_steps), search rules) in
    c.in_ok-first.ensures.counted ∙ same

-- the networks are refused, behind an office that was read
pub returns-in_err-networks-clause-refused : goal.returns-in_err-networks-clause-refused
returns-in_err-networks-clause-refused g c =
    let bytes_at = g.S.FileSystem.bytes_at c.args.rt.now in
    let options = c.args.options.now in
    let same : c.len-count.result ≡ length options.networks.items = first_of (grind (arith, common_steps), search rules) in
    let known : IsNetworkCount (length options.networks.items) = (omega (arith, same), omega (arith, same)) in
    let told = err_from_is_err_and c.from_residual-in_err-networks.result c.from_residual-in_err-networks.ensures.1 in
    rw (told.1, told.2)
    (networks_refused known c.in_ok-first.first.office
    (subst (λ (n : ℕ). BeginsWith bytes_at n options.start c.in_ok-first.first.office) same c.in_ok-first.ensures.begins)
    (subst (λ (paths : List (Bor (List ℕ))). AreNetworksRefused bytes_at paths c.in_err-networks.field-0.0) c.deref.ensures.value c.in_err-networks.ensures.refused))
