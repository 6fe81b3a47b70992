-- What the tests of a commit say, of the kept problem that was found.
use Rattle.std.proofs.Common.{◌≡◌, ◌≢◌, ◌∙◌, ◌≤◌, ℕ, true, false, List, length, Some, None, refl, sym, ap, inl, inr}
use Rattle.std.proofs.lemmas.List.{length-map}
use Rattle.wagons_and_orders.specs.Wanted.{WantedOrder}
use Rattle.move_messages.specs.declared.commit_text.CommitText.{CommitText}
use Rattle.cost_table.specs.Problem.{ProblemValue}
use Rattle.cost_table.specs.Table.{Table, order_count, wagon_count}
use Rattle.move_messages.specs.declared.event.Event.{Event}
use Rattle.commit_book.specs.BookStep.{BookState, is_full, is_kept, refusal_in}
use Rattle.commit_book.specs.inner.CommitTests.{IsAccepted, IsRefused, IsTestable}
use Rattle.commit_book.specs.History.{IsTableAt, problem_at, replay}
use Rattle.commit_book.specs.Setting.{Setting}
use Rattle.commit_book.specs.declared.answer.Answer.TheVariants.{Refused}
use Rattle.faults.specs.declared.faults.Refusal.{Refusal}
use Rattle.faults.specs.declared.faults.Refusal.TheVariants.{OutOfMemory, NotKept, BookFull}
use Rattle.commit_book.proofs.BookCalls.{commit_step, memory_or}
use Rattle.commit_book.proofs.Books.{commit_judged, commit_passed}

pub accepted_by : (setting : Setting) (book : BookState) (commit : CommitText) (problem : ProblemValue) (table : Table) → IsTestable setting book commit → commit.version ≤ length book.history → problem ≡ problem_at setting book.history commit.version commit.at
    → IsTableAt setting book.history commit.version commit.at table → refusal_in problem (replay setting book.history) commit table ≡ None → IsAccepted setting book commit
accepted_by setting book commit problem table test had is is_table h =
    let passed = commit_passed setting book.history commit problem table had is is_table h in
    record {
      testable = test;
      answered = commit_judged setting book.history commit problem table None is is_table h;
      least = passed.0;
      promised = passed.1;
    }

pub refused_by : (setting : Setting) (book : BookState) (commit : CommitText) (problem : ProblemValue) (table : Table) → IsTestable setting book commit → problem ≡ problem_at setting book.history commit.version commit.at
    → IsTableAt setting book.history commit.version commit.at table → (refusal : Refusal) → (refusal ≢ OutOfMemory → refusal_in problem (replay setting book.history) commit table ≡ Some refusal) → IsRefused setting book commit refusal
refused_by setting book commit problem table test is is_table refusal h =
    elim (memory_or (refusal_in problem (replay setting book.history) commit table ≡ Some refusal) refusal h) [
      | inl says ↦ inl (commit_step setting book commit (Refused refusal) true false test.kept test.room (commit_judged setting book.history commit problem table (Some refusal) is is_table says))
      | inr memory ↦ inr (memory, test)
    ]

pub not_kept : (setting : Setting) (book : BookState) (commit : CommitText) → is_kept book.kept (commit.version, commit.at) ≡ false → IsRefused setting book commit NotKept
not_kept setting book commit none = inl (commit_step setting book commit (Refused NotKept) false (is_full setting book.history) none refl refl)

pub full : (setting : Setting) (book : BookState) (commit : CommitText) → is_kept book.kept (commit.version, commit.at) ≡ true → is_full setting book.history ≡ true → IsRefused setting book commit BookFull
full setting book commit kept no_room = inl (commit_step setting book commit (Refused BookFull) true true kept no_room refl)

-- the table of a problem is of its wagons and orders
pub wagons_fit : (setting : Setting) (history : List Event) (n at : ℕ) (problem : ProblemValue) (table : Table) → problem ≡ problem_at setting history n at → IsTableAt setting history n at table → wagon_count table ≡ length problem.wagons
wagons_fit setting history n at problem table is is_table = is_table.of_problem.wagons ∙ ap (λ (p : ProblemValue). length p.wagons) (sym is)

pub orders_fit : (setting : Setting) (history : List Event) (n at : ℕ) (problem : ProblemValue) (table : Table) → problem ≡ problem_at setting history n at → IsTableAt setting history n at table → order_count table ≡ length problem.orders
orders_fit setting history n at problem table is is_table = ap length is_table.of_problem.lacks ∙ length-map _ (λ (o : WantedOrder). o.lack) ∙ ap (λ (p : ProblemValue). length p.orders) (sym is)
