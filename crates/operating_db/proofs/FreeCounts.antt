-- How many wagons are free of a class at a place, counted by their rows.
use Rattle.std.proofs.Common.{◌≡◌, ◌∙◌, ℕ, ◌+◌, cond, List, [], ◌∷◌, count_by, refl, ap, sym, arith}
use Rattle.std.specs.Prelude.{Option, Some, None}
use Rattle.std.specs.List.{cons_option}
use Rattle.std.proofs.lemmas.List.Sums.{sum_by-cons}
use Rattle.wagons_and_orders.specs.declared.free_wagon.FreeWagon.{FreeWagon}
use Rattle.wagons_and_orders.specs.declared.wagon_row.WagonRow.{WagonRow}
use Rattle.wagons_and_orders.specs.Free.{free_of}
use Rattle.fleet_rows.specs.FreeWagons.{is_free_at, is_of_class_at, is_one_at}
use Rattle.operating_db.specs.FreeCount.{free_count}
use Rattle.operating_db.specs.Problem.{free_wagons}

count_step : (class place : List ℕ) (o : Option FreeWagon) (rest : List FreeWagon) → count_by (is_of_class_at class place) (cons_option o rest) ≡ cond (is_one_at class place o) 1 0 + count_by (is_of_class_at class place) rest
count_step class place None rest = let same : count_by (is_of_class_at class place) rest ≡ 0 + count_by (is_of_class_at class place) rest = omega arith in same
count_step class place (Some wagon) rest = sum_by-cons (λ (w : FreeWagon). cond (is_of_class_at class place w) 1 0) wagon rest

pub free_counted : (class place : List ℕ) (rows : List WagonRow) → count_by (is_free_at class place) rows ≡ free_count rows class place
free_counted class place [] = refl
free_counted class place (row ∷ rows) =
    sum_by-cons (λ (r : WagonRow). cond (is_free_at class place r) 1 0) row rows
    ∙ (ap (λ n. cond (is_free_at class place row) 1 0 + n) (free_counted class place rows)
    ∙ sym (count_step class place (free_of row) (free_wagons rows)))
