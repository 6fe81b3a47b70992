-- Rows that are taken over.
use Rattle.std.proofs.Common.{◌≡◌, ◌∙◌, ◌≤◌, ◌<◌, Bool, true, false, ℕ, List, [], Some, get_or, length, arith}
use Rattle.std.specs.Prelude.{slice_get}
use Rattle.std.proofs.lemmas.Option.{get_or_from_slice_get}
use Rattle.line_network.specs.Network.{NetworkValue}
use Rattle.wagons_and_orders.specs.declared.free_wagon.FreeWagon.{FreeWagon}
use Rattle.wagons_and_orders.specs.Wanted.{WantedOrder}
use Rattle.problem_table.specs.inner.AllowedRows.{AreLastingRows, IsLastingRow}
use Rattle.problem_table.specs.inner.Alike.{AreAlike}
use Rattle.problem_table.specs.inner.Moved.{HaveSameTexts}
use Rattle.problem_table.proofs.AlikeLemmas.{alike_row}
use Rattle.problem_table.proofs.AllowedLemmas.{some_at}
use Rattle.problem_table.proofs.MovedLemmas.{same_lasting_row}

-- a row that lasts from an earlier moment on lasts from a later one on
earlier_row : (net : NetworkValue) (earlier at : ℕ) (wagons : List FreeWagon) (orders : List WantedOrder) (rows : List (List (ℕ × ℕ))) (lasts : List ℕ) (k : ℕ) (wagon : FreeWagon) (end : ℕ)
    → AreLastingRows net earlier wagons orders rows lasts → earlier ≤ at → slice_get wagons k ≡ Some wagon → slice_get lasts k ≡ Some end → IsLastingRow net at wagon orders (get_or rows k []) end
earlier_row net earlier at wagons orders rows lasts k wagon end h later there moment =
    let last_is : get_or lasts k 0 ≡ end = get_or_from_slice_get lasts k end 0 moment in
    λ m l u. h.each k wagon there m (omega (arith, later, l)) (omega (arith, u, last_is))

-- the same of the row of a wagon that is alike from then on
pub alike_earlier_row : (net : NetworkValue) (earlier at : ℕ) (wagons : List FreeWagon) (orders : List WantedOrder) (rows : List (List (ℕ × ℕ))) (lasts : List ℕ) (k : ℕ) (wagon : FreeWagon) (end : ℕ)
    → AreLastingRows net earlier wagons orders rows lasts → earlier ≤ at → k < length wagons → ((there : FreeWagon) → slice_get wagons k ≡ Some there → AreAlike at there wagon) → slice_get lasts k ≡ Some end → IsLastingRow net at wagon orders (get_or rows k []) end
alike_earlier_row net earlier at wagons orders rows lasts k wagon end h later within alike moment =
    let there = some_at wagons k within in
    alike_row net at there.0 wagon orders (get_or rows k []) end (alike there.0 there.1) (earlier_row net earlier at wagons orders rows lasts k there.0 end h later there.1 moment)

pub index_within : (net : NetworkValue) (at : ℕ) (wagons : List FreeWagon) (orders : List WantedOrder) (rows : List (List (ℕ × ℕ))) (lasts : List ℕ) (k : ℕ) → AreLastingRows net at wagons orders rows lasts → k < length wagons → k < length rows
index_within net at wagons orders rows lasts k h within = omega (arith, h.count, within)

-- rows that last are those of the same orders, whatever they lack
pub same_rows : (net : NetworkValue) (at : ℕ) (wagons : List FreeWagon) (earlier orders : List WantedOrder) (rows : List (List (ℕ × ℕ))) (lasts : List ℕ) → HaveSameTexts earlier orders → AreLastingRows net at wagons earlier rows lasts → AreLastingRows net at wagons orders rows lasts
same_rows net at wagons earlier orders rows lasts same h = record {
  count = h.count;
  moments = h.moments;
  within = h.within;
  each = λ i wagon there. same_lasting_row net at wagon earlier orders (get_or rows i []) (get_or lasts i 0) same (h.each i wagon there);
}

-- rows beside the same block
pub same_block : (shares : Bool) (earlier old new : List (List (ℕ × ℕ))) → new ≡ old → (shares ≡ true → old ≡ earlier) × (shares ≡ false → old ≡ []) → (shares ≡ true → new ≡ earlier) × (shares ≡ false → new ≡ [])
same_block shares earlier old new same h = (λ yes. same ∙ h.0 yes, λ no. same ∙ h.1 no)
