-- Entries of which no two are the same, by a rule that takes each that is new and refuses any other.
use Rattle.std.proofs.Common.{◌≡◌, ◌∙◌, Bool, true, false, List, [], ◌∷◌, ◌++◌, Ok, Err, refl, ap, sym, subst, inl, inr}
use Rattle.std.proofs.lemmas.Bool.{cases_Bool}
use Rattle.std.proofs.lemmas.List.{append-nil, append_assoc}
use Rattle.std.proofs.lemmas.Map.Keys.{IsDistinct-head, IsDistinct-push, IsDistinct-tail}
use Rattle.std.specs.Cmp.{IsEquivalence}
use Rattle.std.specs.List.{AllByRecursion, IsDistinct, list_any}
use Rattle.csv_records.proofs.Saying.{IsCollected-is_read, IsCollected-read, with_all}
use Rattle.csv_records.specs.Fields.{Record}
use Rattle.csv_records.specs.Files.{AreBelowHeader}
use Rattle.csv_records.specs.Reading.{ReadingRule, value_of}

module _ {A F : Type 0} (rule : ReadingRule A (List A) F) (same : A → A → Bool) where
  pub record TakesEachOnce : Type 0 where
    pub alike : IsEquivalence same
    pub begins : rule.none_read ≡ []
    pub takes : (xs : List A) (x : A) → list_any (same x) xs ≡ false → rule.with_one xs x ≡ Ok (xs ++ x ∷ [])
    pub fault : List A → A → F
    pub refuses : (xs : List A) (x : A) → list_any (same x) xs ≡ true → rule.with_one xs x ≡ Err (fault xs x)

  -- entries taken one after the other are all of them, and no two are the same
  record AreTaken (xs more end : List A) : Type 0 where
    all : end ≡ xs ++ more
    apart : IsDistinct same end

  are_taken : TakesEachOnce → (xs more end : List A) → IsDistinct same xs → with_all rule xs more ≡ Ok end → AreTaken xs more end
  are_taken once xs [] end apart e =
      let is : xs ≡ end = cc e in
      rw (← is) (record { all = sym (append-nil xs); apart = apart })
  are_taken once xs (x ∷ more) end apart e = elim (cases_Bool (list_any (same x) xs)) [
    | inl there ↦ cc (rw (once.refuses xs x there) at e)
    | inr new ↦
        let others = are_taken once (xs ++ x ∷ []) more end (IsDistinct-push once.alike xs x apart new) (rw (once.takes xs x new) at e) in
        record { all = others.all ∙ rw append_assoc refl; apart = others.apart }
  ]

  at_middle : (P : A → Type 0) (xs : List A) (x : A) (more : List A) → AllByRecursion P (xs ++ x ∷ more) → P x
  at_middle P [] x more h = h.0
  at_middle P (y ∷ ys) x more h = at_middle P ys x more h.1

  -- where no two are the same, none before one is
  none_before : TakesEachOnce → (xs : List A) (x : A) (more : List A) → IsDistinct same (xs ++ x ∷ more) → list_any (same x) xs ≡ false
  none_before once [] x more apart = refl
  none_before once (y ∷ ys) x more apart =
      let first : same y x ≡ false = at_middle (λ z. same y z ≡ false) ys x more (IsDistinct-head same y (ys ++ x ∷ more) apart) in
      let flipped : same x y ≡ false = once.alike.symm x y ∙ first in
      let others : list_any (same x) ys ≡ false = none_before once ys x more (IsDistinct-tail same y (ys ++ x ∷ more) apart) in
      rw (flipped, others) refl

  take_all_of : TakesEachOnce → (xs more : List A) → IsDistinct same (xs ++ more) → with_all rule xs more ≡ Ok (xs ++ more)
  take_all_of once xs [] apart = ap Ok (sym (append-nil xs))
  take_all_of once xs (x ∷ more) apart =
      let joined : (xs ++ x ∷ []) ++ more ≡ xs ++ x ∷ more = rw append_assoc refl in
      rw (once.takes xs x (none_before once xs x more apart)) (take_all_of once (xs ++ x ∷ []) more (rw joined apart) ∙ ap Ok joined)

  none_twice : IsDistinct same []
  unfolding IsDistinct
  none_twice = tt

  -- what is read is the records' entries, and no two are the same
  pub record AreApart (records : List Record) (entries : List A) : Type 0 where
    pub file : AreBelowHeader rule.is_header rule.says rule.most records entries
    pub apart : IsDistinct same entries

  pub AreApart-read : TakesEachOnce → (records : List Record) (entries : List A) → value_of rule records ≡ Ok entries → AreApart records entries
  AreApart-read once records entries e =
      let read = IsCollected-read rule records entries e in
      let taken = are_taken once [] read.entries entries none_twice (subst (λ xs. with_all rule xs read.entries ≡ Ok entries) once.begins read.taken) in
      record {
        file = subst (AreBelowHeader rule.is_header rule.says rule.most records) (sym taken.all) read.file;
        apart = taken.apart;
      }

  -- and such entries are read
  pub AreApart-is_read : TakesEachOnce → (records : List Record) (entries : List A) → AreBelowHeader rule.is_header rule.says rule.most records entries → IsDistinct same entries
      → value_of rule records ≡ Ok entries
  AreApart-is_read once records entries file apart =
      let taken = subst (λ xs. with_all rule xs entries ≡ Ok entries) (sym once.begins) (take_all_of once [] entries apart) in
      IsCollected-is_read rule records entries (record { entries = entries; file = file; taken = taken })
