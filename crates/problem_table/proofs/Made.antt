-- What is made of rows that last: a table, unless memory was refused.
use Rattle.std.proofs.Common.{◌≡◌, ◌≤◌, ℕ, List, Result, Ok, Err}
use Rattle.std.specs.Prelude.{All, IfOk}
use Rattle.std.specs.declared.alloc.AllocError.{AllocError}
use Rattle.line_network.specs.Network.{NetworkValue}
use Rattle.problem_table.specs.Allowed.{IsTableOf}
use Rattle.problem_table.specs.Lasting.{IsLastingTable}
use Rattle.cost_table.specs.Problem.{ProblemValue}
use Rattle.problem_table.specs.declared.lasting.TimedCells.{TimedCells}
use Rattle.problem_table.specs.inner.AllowedRows.{AreLastingRows, table_of_rows}
use Rattle.problem_table.proofs.AllowedLemmas.{made_at, made_lasting, made_now}

module _ (net : NetworkValue) (problem : ProblemValue) (rows : List (List (ℕ × ℕ))) (lasts : List ℕ) (h : AreLastingRows net problem.at problem.wagons problem.orders rows lasts) where
  pub timed_now : (r : Result TimedCells AllocError) → IfOk r (λ made. made.cells ≡ table_of_rows rows problem.orders) → IfOk r (λ made. IsTableOf net problem made.cells)
  timed_now (Ok made) is = made_now net problem rows lasts made.cells h is
  timed_now (Err e) is = tt

  pub timed_lasts : (r : Result TimedCells AllocError) → IfOk r (λ made. made.cells ≡ table_of_rows rows problem.orders) → IfOk r (λ made. All (λ end. made.until ≤ end) lasts) → IfOk r (λ made. (m : ℕ) → problem.at ≤ m → m ≤ made.until → IsTableOf net (record problem { at = m }) made.cells)
  timed_lasts (Ok made) is least = λ m from up. made_at net problem rows lasts made.cells made.until m h is least from up
  timed_lasts (Err e) is least = tt

  pub timed_lasting : (r : Result TimedCells AllocError) → IfOk r (λ made. made.cells ≡ table_of_rows rows problem.orders) → IfOk r (λ made. made.lasts.items ≡ lasts) → IfOk r (λ made. IsLastingTable net problem made.cells made.lasts.items)
  timed_lasting (Ok made) is are = made_lasting net problem rows lasts made.cells made.lasts.items h is are
  timed_lasting (Err e) is are = tt
