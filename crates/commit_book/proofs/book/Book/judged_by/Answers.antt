use Rattle.std.proofs.Common.{◌≡◌, ◌≤◌, ap, length, ◌∙◌, subst, sym}
use Rattle.std.proofs.lemmas.Result.{IfErr-weaker, on_ok_weaker}
use Rattle.operating_db.specs.Office.{Office}
use Rattle.operating_db.specs.State.{StateValue}
use Rattle.commit_book.specs.BookStep.{refusal_in}
use Rattle.commit_book.specs.Books.{BookValue}
use Rattle.commit_book.specs.History.{problem_at, replay}
use Rattle.commit_book.proofs.BookParts.{named_there}
use Rattle.commit_book.proofs.Judging.{accepted_by, refused_by}
use Rattle.commit_book.proofs.book.Book.judged_by.Goals as goal

pub returns-clause-accepted : goal.returns-clause-accepted
returns-clause-accepted c =
    let commit = c.args.commit.now in
    let named = subst (λ (book : BookValue). (commit.version ≤ length book.state.history) × (c.index.result.now.problem ≡ problem_at book.setting book.state.history commit.version commit.at)) c.self.view_is
    (named_there _ c.self.inside.ledger.events c.self.inside.kept.items c.args.index c.index.result.now commit.version commit.at c.self.invariant.book c.index.ensures (rw (← c.self.view_is) at c.requires.kept.there)) in
    let office : c.state.result.now.office ≡ replay c.args.self.now.setting c.args.self.now.state.history = ap (λ (s : StateValue). s.office) c.state.ensures.state in
    on_ok_weaker c.judge.result (λ none. accepted_by c.args.self.now.setting c.args.self.now.state commit c.index.result.now.problem c.args.cells.now (record { kept = c.requires.kept.is_among; room = c.requires.room }) named.0 named.1 c.requires.table
    (ap (λ (o : Office). refusal_in c.index.result.now.problem o commit c.args.cells.now) (sym office) ∙ none)) c.judge.ensures.accepted

pub returns-clause-refused : goal.returns-clause-refused
returns-clause-refused c =
    let commit = c.args.commit.now in
    let named = subst (λ (book : BookValue). (commit.version ≤ length book.state.history) × (c.index.result.now.problem ≡ problem_at book.setting book.state.history commit.version commit.at)) c.self.view_is
    (named_there _ c.self.inside.ledger.events c.self.inside.kept.items c.args.index c.index.result.now commit.version commit.at c.self.invariant.book c.index.ensures (rw (← c.self.view_is) at c.requires.kept.there)) in
    let office : c.state.result.now.office ≡ replay c.args.self.now.setting c.args.self.now.state.history = ap (λ (s : StateValue). s.office) c.state.ensures.state in
    IfErr-weaker c.judge.result _ _ (λ refusal says. refused_by c.args.self.now.setting c.args.self.now.state commit c.index.result.now.problem c.args.cells.now (record { kept = c.requires.kept.is_among; room = c.requires.room }) named.1 c.requires.table refusal
    (λ other. ap (λ (o : Office). refusal_in c.index.result.now.problem o commit c.args.cells.now) (sym office) ∙ says other)) c.judge.ensures.refused
