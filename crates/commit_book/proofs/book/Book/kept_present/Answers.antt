use Rattle.std.proofs.Common.{◌∙◌, ap, refl, subst}
use Rattle.fleet_rows.specs.Kept.{IsWagonRows}
use Rattle.operating_db.specs.State.{StateValue}
use Rattle.commit_book.specs.History.{replay}
use Rattle.commit_book.proofs.BookParts.{in_force_known, present_kept}
use Rattle.commit_book.proofs.Searches.{problem_ascends}
use Rattle.commit_book.proofs.book.Book.kept_present.Goals as goal

pub of-requires : goal.of-requires
of-requires c =
    let rows = subst (λ (s : StateValue). IsWagonRows s.office.wagons) c.state.ensures.state c.for_the_prover.ensures.wagons in
    rw c.in_ok-copy.ensures (problem_ascends _ (replay c.args.self.now.setting c.args.self.now.state.history) c.args.problem.now.at c.requires rows)

pub returns-clause-kept : goal.returns-clause-kept
returns-clause-kept c =
    let network = c.network.ensures.value ∙ ap (λ (s : StateValue). s.office.network) c.state-2.ensures.state in
    let known = in_force_known c.args.self.now.setting.networks c.network.result c.state-2.result.now c.network.ensures.valid c.network.ensures.value (ap (λ (s : StateValue). s.networks) c.state-2.ensures.state) in
    present_kept c.args.self.now.setting c.args.self.now.state.history c.len.result c.network.result c.args.problem.now _ c.len.ensures.value network c.requires known refl refl (c.of.ensures ∙ c.in_ok-copy.ensures) refl
