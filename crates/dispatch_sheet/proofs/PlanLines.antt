-- The lines of a plan, as loops go over them.
use Rattle.std.proofs.Common.{◌≡◌, ◌+◌, ◌<◌, ℕ, zero, suc, List, [], ◌∷◌, ◌++◌, length, get_or, sym, ap, ◌∙◌, append_assoc, append-nil, add-one, arith}
use Rattle.std.specs.Prelude.{replicate}
use Rattle.std.specs.List.{concat, flat_map, range_with_len}
use Rattle.std.proofs.lemmas.List.Concat.{flat_map-append}
use Rattle.cost_table.specs.Table.{Table}
use Rattle.cost_table.specs.Plan.{AllAllowed, IsAllowed}

-- a pair of a plan is allowed
pub IsAllowed-at : (t : Table) (pairs : List (ℕ × ℕ)) (i : ℕ) (d : ℕ × ℕ) → AllAllowed t pairs → i < length pairs → IsAllowed t (get_or pairs i d)
IsAllowed-at t [] i d h l = absurd (omega arith)
IsAllowed-at t (p ∷ pairs) zero d h l = h.0
IsAllowed-at t (p ∷ pairs) (suc i) d h l = IsAllowed-at t pairs i d h.1 (omega arith)

-- one more of the same line
pub concat-replicate_more : (n : ℕ) (line : List ℕ) → concat (replicate (n + 1) line) ≡ concat (replicate n line) ++ line
concat-replicate_more zero line = append-nil line
concat-replicate_more (suc n) line = rw (add-one) (ap (λ more. line ++ more) (sym (ap (λ m. concat (replicate m line)) (add-one n)) ∙ concat-replicate_more n line) ∙ sym (append_assoc line (concat (replicate n line)) line))

-- one more number
range_more : (a n : ℕ) → range_with_len a (suc n) ≡ range_with_len a n ++ (a + n) ∷ []
range_more a zero = ap (λ m. m ∷ []) (omega arith)
range_more a (suc n) =
    let same : (a + 1) + n ≡ a + suc n = omega arith in
    ap (λ more. a ∷ more) (range_more (a + 1) n ∙ ap (λ m. range_with_len (a + 1) n ++ m ∷ []) same)

-- the lines of one order more
pub flat_map-range_more : (f : ℕ → List ℕ) (n : ℕ) → flat_map f (range_with_len 0 (n + 1)) ≡ flat_map f (range_with_len 0 n) ++ f n
flat_map-range_more f n =
    let one : range_with_len 0 (n + 1) ≡ range_with_len 0 n ++ n ∷ [] = ap (range_with_len 0) (add-one n) ∙ range_more 0 n ∙ ap (λ m. range_with_len 0 n ++ m ∷ []) (omega arith) in
    ap (flat_map f) one ∙ flat_map-append f (range_with_len 0 n) (n ∷ []) ∙ ap (λ more. flat_map f (range_with_len 0 n) ++ more) (append-nil (f n))
