use Rattle.std.proofs.Common.{◌≡◌, ◌+◌, ◌<◌, ℕ, List, [], ◌∷◌, ◌++◌, length, get_or, take, map, rules, ap, sym, ◌∙◌, arith}
use Rattle.std.proofs.lemmas.List.{map_more}
use Rattle.cost_table.specs.TableRows.{cells_of}
use Rattle.cost_table.proofs.RowLemmas.{HoldRows-more}
use Rattle.cost_table.proofs.rows.flatten.Goals as goal

map_read : {X Y : Type 0} (f : X → Y) (xs : List X) (i : ℕ) (x : X) → i < length xs → x ≡ get_or xs i x → map f (take (i + 1) xs) ≡ map f (take i xs) ++ f x ∷ []
map_read f xs i x l e = map_more f xs i x l ∙ ap (λ y. map f (take i xs) ++ f y ∷ []) (sym e)

pub loop-row-preserved : goal.loop-row-preserved
loop-row-preserved c =
    HoldRows-more c.loop-row.entries.items _ (cells_of 0 c.row-item.result.items) c.loop-row.ends.items _ _ _ (search rules) (search rules) (map_read _ _ _ _ (omega arith) c.row-item.is) c.loop-row.invariant
