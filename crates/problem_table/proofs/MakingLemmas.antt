-- How the rows that are made grow.
use Rattle.std.proofs.Common.{◌≡◌, ◌+◌, ◌<◌, ◌≤◌, ◌∙◌, ℕ, Some, List, [], length, get_or, take, sym, ap, arith, length-take-le, Result, Ok, Err}
use Rattle.std.specs.Prelude.{All, OnOk, slice_get}
use Rattle.std.proofs.lemmas.Option.{get_or_from_slice_get, slice_get_within}
use Rattle.line_network.specs.Network.{NetworkValue}
use Rattle.cost_table.specs.Problem.{ProblemValue}
use Rattle.cost_table.specs.SharedRows.{HasPlaces, rows_in}
use Rattle.wagons_and_orders.specs.declared.free_wagon.FreeWagon.{FreeWagon}
use Rattle.problem_table.specs.declared.making.Making.{Making}
use Rattle.problem_table.specs.inner.Alike.{AreAlike}
use Rattle.problem_table.specs.inner.AllowedRows.{AreLastingRows}
use Rattle.problem_table.specs.inner.Goals.{AreGoalsOf}
use Rattle.problem_table.specs.inner.Making.{AddsRowUntil, AddsWagon, AreMade}
use Rattle.problem_table.proofs.AlikeLemmas.{row_of_alike}
use Rattle.problem_table.proofs.AllowedLemmas.{lasting_next, lasting_start, lasting_whole, some_at}

-- what follows from a success, where there was one
pub on_ok : {A E P Q : Type 0} (r : Result A E) → (P → Q) → OnOk r P → OnOk r Q
on_ok (Ok x) f p = f p
on_ok (Err e) f p = tt

module _ (net : NetworkValue) (problem : ProblemValue) (k : ℕ) (wagon : FreeWagon) (here : slice_get problem.wagons k ≡ Some wagon) (old : Making) (made : AreMade net problem k old) where
  -- the row of the next wagon
  pub made_next : (new : Making) → AddsWagon net problem wagon old new → All (AreGoalsOf net 0 problem.orders) new.classes.items → AreMade net problem (k + 1) new
  made_next new adds classes = record {
    placed = adds.more.placed;
    rows = lasting_next net problem.at problem.wagons problem.orders k wagon (rows_in old.rows) (rows_in new.rows) old.lasts.items new.lasts.items (slice_get_within problem.wagons k wagon here) (sym (get_or_from_slice_get problem.wagons k wagon wagon here)) made.rows
        (record { row = adds.row; last = adds.last; rows = adds.more.rows; moments = adds.more.moments; within = adds.within; is = adds.is });
    classes = classes;
  }

  -- the row of an alike wagon once more
  pub made_again : (i : ℕ) (new : Making) → i < k → ((one : FreeWagon) → slice_get problem.wagons i ≡ Some one → AreAlike problem.at one wagon) → AddsRowUntil old new (get_or (rows_in old.rows) i []) (get_or old.lasts.items i 0) → AddsWagon net problem wagon old new
  made_again i new before alike more =
      let short : length (take k problem.wagons) ≡ k = length-take-le k problem.wagons (omega (arith, slice_get_within problem.wagons k wagon here)) in
      record {
        row = get_or (rows_in old.rows) i [];
        last = get_or old.lasts.items i 0;
        more = more;
        within = made.rows.within i 0 (omega (arith, made.rows.moments, short, before));
        is = row_of_alike net problem.at problem.wagons problem.orders k i wagon (rows_in old.rows) old.lasts.items here before alike made.rows;
      }

  -- as the row of the next wagon
  pub made_repeated : (i : ℕ) (new : Making) → i < k → ((one : FreeWagon) → slice_get problem.wagons i ≡ Some one → AreAlike problem.at one wagon) → AddsRowUntil old new (get_or (rows_in old.rows) i []) (get_or old.lasts.items i 0)
      → new.classes ≡ old.classes → AreMade net problem (k + 1) new
  made_repeated i new before alike more classes = made_next new (made_again i new before alike more) (rw classes made.classes)

  -- there are as many rows and moments as wagons
  pub row_within : (i : ℕ) → i < k → i < length (rows_in old.rows)
  row_within i before =
      let short : length (take k problem.wagons) ≡ k = length-take-le k problem.wagons (omega (arith, slice_get_within problem.wagons k wagon here)) in
      omega (arith, made.rows.count, short, before)

  pub moment_within : (i : ℕ) → i < k → i < length old.lasts.items
  moment_within i before =
      let short : length (take k problem.wagons) ≡ k = length-take-le k problem.wagons (omega (arith, slice_get_within problem.wagons k wagon here)) in
      omega (arith, made.rows.moments, short, before)

module _ (net : NetworkValue) (problem : ProblemValue) where
  -- before the first wagon
  pub made_start : (making : Making) → HasPlaces making.rows → rows_in making.rows ≡ [] → making.lasts.items ≡ [] → making.classes.items ≡ [] → AreMade net problem 0 making
  made_start making placed rows lasts classes = record {
    placed = placed;
    rows = rw (rows, lasts) (lasting_start net problem.at problem.orders);
    classes = rw classes none;
  } where
    none : All (AreGoalsOf net 0 problem.orders) []
    none = λ k d l. absurd (omega arith)

  -- behind the last one
  pub made_whole : (k : ℕ) (making : Making) → length problem.wagons ≤ k → AreMade net problem k making → AreLastingRows net problem.at problem.wagons problem.orders (rows_in making.rows) making.lasts.items
  made_whole k making l h = lasting_whole net problem.at problem.wagons problem.orders k (rows_in making.rows) making.lasts.items l h.rows

-- what is read at an index stands there
pub stands_at : (wagons : List FreeWagon) (k : ℕ) (wagon : FreeWagon) → k < length wagons → wagon ≡ get_or wagons k wagon → slice_get wagons k ≡ Some wagon
stands_at wagons k wagon l is = let there = some_at wagons k l in there.1 ∙ ap Some (sym (get_or_from_slice_get wagons k there.0 wagon there.1) ∙ sym is)
