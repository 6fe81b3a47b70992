-- What was written reads as what it was made of.
use Rattle.std.proofs.Common.{◌≡◌, ℕ, ◌+◌, ◌<◌, ◌≤◌, List, [], ◌∷◌, length, get_or, map, take, Result, Ok, refl, subst}
use Rattle.std.specs.Prelude.{All}
use Rattle.std.specs.List.{AllByRecursion}
use Rattle.std.proofs.lemmas.Bool.{le-leb}
use Rattle.std.proofs.lemmas.List.{take_all}
use Rattle.std.proofs.lemmas.List.Elements.{All-more, recursion_from_All}
use Rattle.serde_json.specs.Data.{Data, string}
use Rattle.serde_json.specs.View.{items_of}
use Rattle.rail_codes.specs.WagonNumber.{wagon_number_of}
use Rattle.rail_codes.specs.OrderId.{order_id_of}
use Rattle.rail_codes.specs.Moment.{moment_of}
use Rattle.rail_codes.specs.declared.code_fault.CodeFault.{CodeFault}
use Rattle.line_fields.specs.declared.fault.FieldFault.{FieldFault}
use Rattle.line_fields.specs.Values.{each, list_of, list_of_each, number_within, text_of, code_from, moment_from, wagon_and_order}
use Rattle.line_fields.specs.Written.{list_data, number_data, pair_data}

-- ---- numbers and pairs

pub number_reads : (low high n : ℕ) → low ≤ n → n ≤ high → number_within low high (number_data n) ≡ Ok n
unfolding number_within
number_reads low high n above below = rw (le-leb low n above, le-leb n high below) refl

pub pair_reads : (wagon order : List ℕ) → wagon_number_of wagon ≡ Ok wagon → order_id_of order ≡ Ok order → wagon_and_order (pair_data (wagon, order)) ≡ Ok (wagon, order)
unfolding wagon_and_order list_of code_from text_of
pair_reads wagon order wagon_reads order_reads = rw (wagon_reads, order_reads) refl

-- a code or a moment
pub code-reads : {A : Type 0} (read : List ℕ → Result A CodeFault) (text : List ℕ) (x : A) → read text ≡ Ok x → code_from read (string text) ≡ Ok x
unfolding code_from text_of
code-reads read text x e = rw e refl

pub moment-reads : (text : List ℕ) (moment : ℕ) → moment_of text ≡ Ok moment → moment_from (string text) ≡ Ok moment
moment-reads text moment e = code-reads moment_of text moment e

-- ---- lists

each-reads : {A : Type 0} (read : Data → Result A FieldFault) (write : A → Data) (xs : List A) → AllByRecursion (λ x. read (write x) ≡ Ok x) xs → each read (items_of (map write xs)) ≡ Ok xs
unfolding each
each-reads read write [] h = refl
each-reads read write (x ∷ xs) h = rw (h.0, each-reads read write xs h.1) refl

-- a list reads as itself where each of its items does
pub list-reads : {A : Type 0} (read : Data → Result A FieldFault) (write : A → Data) (xs : List A) → All (λ x. read (write x) ≡ Ok x) xs → list_of_each read (list_data write xs) ≡ Ok xs
unfolding list_of_each list_of
list-reads read write xs h = each-reads read write xs (recursion_from_All (λ x. read (write x) ≡ Ok x) xs h)

-- ---- a list that is gone over

-- one item more that a fact holds of
pub holds-more : {A : Type 0} (P : A → Type 0) (xs : List A) (i : ℕ) (x : A) → i < length xs → x ≡ get_or xs i x → All P (take i xs) → P x → All P (take (i + 1) xs)
holds-more P xs i x lt is so_far one = All-more P xs i x lt so_far (subst P is one)

pub holds-whole : {A : Type 0} (P : A → Type 0) (xs : List A) (i : ℕ) → length xs ≤ i → All P (take i xs) → All P xs
holds-whole P xs i past so_far = subst (All P) (take_all i xs past) so_far
