-- Orders that miss wagons, listed one after the other.
use Rattle.std.proofs.Common.{◌≡◌, ◌∙◌, ℕ, zero, suc, ◌+◌, ◌==◌, Bool, true, false, List, ◌∷◌, [], ◌++◌, Some, length, ap, subst, sym, append-nil, refl, inl, inr, arith}
use Rattle.std.specs.Prelude.{filter, if◌then◌else◌, nat_lt, not, slice_get}
use Rattle.std.proofs.lemmas.Bool.{cases_Bool}
use Rattle.std.proofs.lemmas.Bool.Decides.{nat_tests}
use Rattle.std.specs.List.{AllZip, range_with_len}
use Rattle.std.proofs.lemmas.List.Elements.{filter-append}
use Rattle.std.proofs.lemmas.Option.{same_Some}
use Rattle.text_tables.proofs.Columns.{range_one_more}
use Rattle.text_tables.proofs.RowsBelow.{AllZip-more}

-- one number more, which passes the test
filter-taken : (p : ℕ → Bool) (n : ℕ) → p n ≡ true → filter p (range_with_len 0 (n + 1)) ≡ filter p (range_with_len 0 n) ++ n ∷ []
filter-taken p n passes = ap (filter p) (range_one_more n) ∙ filter-append p (range_with_len 0 n) (n ∷ []) ∙ ap (λ more. filter p (range_with_len 0 n) ++ more) (rw passes refl)

filter-left : (p : ℕ → Bool) (n : ℕ) → p n ≡ false → filter p (range_with_len 0 (n + 1)) ≡ filter p (range_with_len 0 n)
filter-left p n fails = ap (filter p) (range_one_more n) ∙ filter-append p (range_with_len 0 n) (n ∷ []) ∙ ap (λ more. filter p (range_with_len 0 n) ++ more) (rw fails refl) ∙ append-nil (filter p (range_with_len 0 n))

pub listed_more : {B : Type 0} (P : ℕ → B → Type 0) (p : ℕ → Bool) (n : ℕ) (ys all : List B) (y : B) → AllZip P (filter p (range_with_len 0 n)) ys → p n ≡ true → P n y → all ≡ ys ++ y ∷ [] → AllZip P (filter p (range_with_len 0 (n + 1))) all
listed_more P p n ys all y h passes is added =
    subst (AllZip P (filter p (range_with_len 0 (n + 1)))) (sym added) (subst (λ xs. AllZip P xs (ys ++ y ∷ [])) (sym (filter-taken p n passes)) (AllZip-more P (filter p (range_with_len 0 n)) ys n y h is))

pub not_listed : {B : Type 0} (P : ℕ → B → Type 0) (p : ℕ → Bool) (n : ℕ) (ys : List B) → AllZip P (filter p (range_with_len 0 n)) ys → p n ≡ false → AllZip P (filter p (range_with_len 0 (n + 1))) ys
not_listed P p n ys h fails = subst (λ xs. AllZip P xs ys) (sym (filter-left p n fails)) h

-- none is missing, or some are
missing_cases : (n : ℕ) → nat_lt 0 n ≡ not (n == 0)
missing_cases n = grind (arith, nat_tests)

-- an order more, which is listed if it misses wagons
pub listed_next : {B : Type 0} (P : ℕ → B → Type 0) (missed_by : ℕ → ℕ) (n : ℕ) (ys all : List B) (y : B) (missing : ℕ) → AllZip P (filter (λ j. nat_lt 0 (missed_by j)) (range_with_len 0 n)) ys → P n y
    → missing ≡ missed_by n → all ≡ (if missing == 0 then ys else ys ++ y ∷ []) → AllZip P (filter (λ j. nat_lt 0 (missed_by j)) (range_with_len 0 (n + 1))) all
listed_next P missed_by n ys all y missing h is same added = elim (cases_Bool (missing == 0)) [
  | inl none ↦
      let left : all ≡ ys = added ∙ rw none refl in
      subst (AllZip P (filter (λ j. nat_lt 0 (missed_by j)) (range_with_len 0 (n + 1)))) (sym left)
      (not_listed P (λ j. nat_lt 0 (missed_by j)) n ys h (ap (nat_lt 0) (sym same) ∙ missing_cases missing ∙ ap not none))
  | inr some ↦
      let more : all ≡ ys ++ y ∷ [] = added ∙ rw some refl in
      listed_more P (λ j. nat_lt 0 (missed_by j)) n ys all y h (ap (nat_lt 0) (sym same) ∙ missing_cases missing ∙ ap not some) is more
]

-- what stands at one place of both lists
pub AllZip-both : {A B : Type 0} (P : A → B → Type 0) (xs : List A) (ys : List B) (i : ℕ) (x : A) (y : B) → AllZip P xs ys → slice_get xs i ≡ Some x → slice_get ys i ≡ Some y → P x y
AllZip-both P [] ys i x y h e f = cc e
AllZip-both P (a ∷ xs) [] i x y h e f = absurd h
AllZip-both P (a ∷ xs) (b ∷ ys) zero x y h e f = subst (λ z. P z y) (same_Some a x e) (subst (P a) (same_Some b y f) h.0)
AllZip-both P (a ∷ xs) (b ∷ ys) (suc i) x y h e f = AllZip-both P xs ys i x y h.1 e f

pub AllZip-length : {A B : Type 0} (P : A → B → Type 0) (xs : List A) (ys : List B) → AllZip P xs ys → length xs ≡ length ys
AllZip-length P [] [] h = refl
AllZip-length P [] (b ∷ ys) h = absurd h
AllZip-length P (a ∷ xs) [] h = absurd h
AllZip-length P (a ∷ xs) (b ∷ ys) h = ap suc (AllZip-length P xs ys h.1)
