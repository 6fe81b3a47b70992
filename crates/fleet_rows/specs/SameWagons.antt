-- Which rows are of one wagon.
use Rattle.std.specs.Prelude.{ℕ, Bool, nat_eq, List}
use Rattle.std.specs.Cmp.Lexicographic.{pointwise}
use Rattle.std.specs.List.{list_any}
use Rattle.wagons_and_orders.specs.declared.wagon_row.WagonRow.{WagonRow}

-- whether two wagon numbers are the same
abbrev pub is_same_number : List ℕ → List ℕ → Bool
is_same_number number other = pointwise nat_eq number other

abbrev pub have_one_number : WagonRow → WagonRow → Bool
have_one_number a b = is_same_number a.number b.number

-- whether one of the rows is that of this wagon
abbrev pub has_wagon : List WagonRow → List ℕ → Bool
has_wagon rows number = list_any (λ row. is_same_number number row.number) rows
