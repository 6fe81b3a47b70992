-- Counts that are made order by order.
use Rattle.std.proofs.Common.{◌≡◌, ℕ, ◌+◌, ◌<◌, List, ◌∷◌, [], ◌++◌, Some, length, take, subst, sym}
use Rattle.std.specs.Prelude.{slice_get}
use Rattle.std.specs.List.{AllZip}
use Rattle.std.proofs.lemmas.Option.{get_or_from_slice_get}
use Rattle.text_tables.proofs.RowsBelow.{AllZip-taken_more}
use Rattle.plan_reasons.proofs.Lines.{some_there}

-- one item more in each, where it is known what stands at i
pub AllZip-there_more : {A B : Type 0} (P : A → B → Type 0) (xs : List A) (ys all : List B) (i : ℕ) (y : B) → i < length xs → AllZip P (take i xs) ys → ((x : A) → slice_get xs i ≡ Some x → P x y) → all ≡ ys ++ y ∷ []
    → AllZip P (take (i + 1) xs) all
AllZip-there_more P xs ys all i y lt h p added =
    let (x, there) = some_there xs i lt in
    subst (AllZip P (take (i + 1) xs)) (sym added) (AllZip-taken_more P xs ys i x x y lt (sym (get_or_from_slice_get xs i x x there)) h (p x there))
