-- Two rows are compared part by part.
use Rattle.std.proofs.Common.{◌≡◌, ◌+◌, ◌-◌, ◌<◌, ◌≤◌, ℕ, List, length, take, drop, get_or, sym, ◌∙◌, ap, arith, inl, inr, length-drop}
use Rattle.std.proofs.lemmas.Bool.{cases_lt}
use Rattle.std.proofs.lemmas.List.{get_or-take, get_or-drop, length-take-le}

pub part_compared : (row other : List (ℕ × ℕ)) (x end : ℕ) → ((k : ℕ) → k < x → get_or row k (0, 0) ≡ get_or other k (0, 0)) → x ≤ end → end ≤ length row → end ≤ length other → ((k : ℕ) → k < length (take (end - x) (drop x row)) → get_or (take (end - x) (drop x row)) k (0, 0) ≡ get_or (take (end - x) (drop x other)) k (0, 0)) → (k : ℕ) → k < end → get_or row k (0, 0) ≡ get_or other k (0, 0)
part_compared row other x end before le in_row in_other part k l = elim (cases_lt k x) [
  | inl less ↦ before k less
  | inr more ↦
      let rest = length-drop x row in
      let count = length-take-le (end - x) (drop x row) (omega (arith, rest, in_row)) in
      let index : x + (k - x) ≡ k = omega (arith, more) in
      let read : (xs : List (ℕ × ℕ)) → get_or (take (end - x) (drop x xs)) (k - x) (0, 0) ≡ get_or xs k (0, 0) = λ xs. get_or-take (end - x) (drop x xs) (k - x) (0, 0) (omega (arith, more, l)) ∙ get_or-drop x xs (k - x) (0, 0) ∙ ap (λ y. get_or xs y (0, 0)) index in
      sym (read row) ∙ part (k - x) (omega (arith, count, more, l)) ∙ read other
]
