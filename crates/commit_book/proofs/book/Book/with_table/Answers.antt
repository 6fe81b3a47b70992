use Rattle.std.proofs.Common.{ℕ, ◌∙◌, ap, subst}
use Rattle.commit_book.specs.Made.{IsMadeOf}
use Rattle.commit_book.specs.declared.made_problem.MadeProblem.{MadeProblem}
use Rattle.commit_book.proofs.BookParts.{made_tabled}
use Rattle.commit_book.proofs.book.Book.with_table.Goals as goal
use Rattle.commit_book.proofs.book.Book.with_table.Goals.{in-Some+in_ok-made-in-Some, in-None+in_ok-made-in-None}

pub returns : goal.returns
returns c =
    let setting = c.args.self.now.setting in
    let history = c.args.self.now.state.history in
    rw c.in_ok-new.ensures.ok (elim c.match-changeable.branch [
      | in-Some+in_ok-made-in-Some w ↦
          rw w.made-is (made_tabled setting history c.args._version c.args.network c.args.problem.now w.in_ok-made-in-Some.made w.tables.result.now c.requires.is_problem c.requires.network w.tables.ensures
          (subst (λ (n : ℕ). IsMadeOf w.tables.result.now n c.args.problem.now w.in_ok-made-in-Some.made) (ap (λ (made : MadeProblem). made.network) w.deref.ensures ∙ w.in-Some.ensures.network) w.in_ok-made-in-Some.ensures))
      | in-None+in_ok-made-in-None w ↦
          rw w.made-is (made_tabled setting history c.args._version c.args.network c.args.problem.now w.in_ok-made-in-None.made w.tables-in-None.result.now c.requires.is_problem c.requires.network w.tables-in-None.ensures w.in_ok-made-in-None.ensures)
    ])
