use Rattle.std.proofs.Common.{◌≡◌, ◌∙◌, ℕ, ap, length, rules}
use Rattle.std.specs.Prelude.{Some}
use Rattle.commit_book.specs.Books.{BookValue}
use Rattle.commit_book.proofs.BegunProblems.{begun_by}
use Rattle.commit_book.proofs.BookParts.{kept_of}
use Rattle.commit_book.proofs.book.Book.begin_with_table.Goals as goal

pub new-requires : goal.new-requires
new-requires c =
    let book = c.args.self.now in
    let cloned : c.in_ok-networks.networks.value ≡ c.self.inside.networks.value = search rules in
    let at : c.problem.result.now.at ≡ c.args.at = search rules in
    let made = c.in_ok-made.ensures in
    begun_by book.setting book.state.history c.args.at c.len.result c.problem.result.now.at c.in_ok-snap.snap c.in_ok-networks.networks.value c.in_ok-made.made.value.timed.cells
    c.in_ok-snap.ensures (cloned ∙ ap (λ (b : BookValue). b.setting.networks) c.self.view_is) c.len.ensures.value at (made.is_made.is_table c.problem.result.now.at made.in_span)

pub returns-clause-kept : goal.returns-clause-kept
returns-clause-kept c =
    let at : c.problem-2.result.now.at ≡ c.args.at = search rules in
    rw c.put.ensures (kept_of c.keep_present.new.self.state.kept c.in_ok-index.index (length c.args.self.now.state.history, c.args.at) (c.in_ok-index.ensures.index ∙ ap (λ (m : ℕ). Some (length c.args.self.now.state.history, m)) at))
