-- The wagons that a file notes of its refused messages.
use Rattle.std.proofs.Common.{◌≡◌, ◌∙◌, ◌||◌, ℕ, Bool, true, false, cond, List, [], ◌∷◌, refl, sym, ap, subst}
use Rattle.std.specs.Prelude.{nat_eq}
use Rattle.std.specs.BTreeMap.{is_at}
use Rattle.std.specs.Cmp.Lexicographic.{pointwise, slice_cmp, texts_ties}
use Rattle.std.specs.List.{list_any}
use Rattle.std.specs.Ordering.{nat_cmp}
use Rattle.std.proofs.lemmas.Cmp.{nat_list_eq_equiv}
use Rattle.sessions.specs.Crossings.{is_out_of_step}
use Rattle.sessions.specs.inner.RefusedWagons.{AreNotedBy, IsNotedBehind, RefusedWagonsValue, has_wagon}
use Rattle.sessions.specs.declared.feed_lines.Counted.{Counted}

-- ---- tests

or_right : (a b : Bool) → b ≡ true → (a || b) ≡ true
or_right true b h = refl
or_right false b h = h

only_by : (a r m o : Bool) → (r || m) ≡ true → (m ≡ true → ((a || false) || o) ≡ true) → ((a || r) || o) ≡ true
only_by true r m o h k = refl
only_by false true m o h k = refl
only_by false false m o h k = k h

all_by : (a r m o : Bool) → ((a || r) || o) ≡ true → (((a || false) || o) ≡ true → m ≡ true) → (r || m) ≡ true
all_by a true m o h k = refl
all_by true false m o h k = k refl
all_by false false m o h k = k h

either : (a b : Bool) → cond a true b ≡ (a || b)
either true b = refl
either false b = refl

-- ---- lines

pub noted_none : (old new : RefusedWagonsValue) → new ≡ old → AreNotedBy [] old new
noted_none old new same = record {
  only = λ wagon has. ap (has_wagon wagon) (sym same) ∙ has;
  kept = λ whole. ap (λ (r : RefusedWagonsValue). r.is_lost) (sym same) ∙ whole;
  all = λ whole wagon has. ap (has_wagon wagon) same ∙ has;
}

pub noted_more : (counted : Counted) (counts : List Counted) (old mid new : RefusedWagonsValue) → AreNotedBy (counted ∷ []) old mid → AreNotedBy counts mid new → AreNotedBy (counted ∷ counts) old new
noted_more counted counts old mid new first rest = record {
  only = λ wagon has. only_by (is_out_of_step wagon counted) (list_any (is_out_of_step wagon) counts) (has_wagon wagon mid) (has_wagon wagon old) (rest.only wagon has) (first.only wagon);
  kept = λ whole. first.kept (rest.kept whole);
  all = λ whole wagon has.
      rest.all whole wagon (all_by (is_out_of_step wagon counted) (list_any (is_out_of_step wagon) counts) (has_wagon wagon mid) (has_wagon wagon old) has (first.all (rest.kept whole) wagon));
}

-- ---- one wagon

turned : (wagon other : List ℕ) → is_at (slice_cmp nat_cmp wagon) other ≡ pointwise nat_eq other wagon
turned wagon other = sym (texts_ties wagon other) ∙ nat_list_eq_equiv.symm wagon other

pub noted_one : (wagon : List ℕ) (old new : RefusedWagonsValue) → new.is_lost ≡ old.is_lost
    → ((other : List ℕ) → has_wagon other new ≡ cond (is_at (slice_cmp nat_cmp wagon) other) true (has_wagon other old)) → IsNotedBehind wagon old new
noted_one wagon old new same updates =
    let has : (other : List ℕ) → has_wagon other new ≡ (pointwise nat_eq other wagon || has_wagon other old) =
    λ other. updates other ∙ either (is_at (slice_cmp nat_cmp wagon) other) (has_wagon other old) ∙ ap (λ (here : Bool). here || has_wagon other old) (turned wagon other) in
    record {
      only = λ other is. sym (has other) ∙ is;
      kept = λ whole. sym same ∙ whole;
      all = λ whole other is. has other ∙ is;
    }

pub noted_lost : (wagon : List ℕ) (old new : RefusedWagonsValue) → new.is_lost ≡ true → new.wagons ≡ old.wagons → IsNotedBehind wagon old new
noted_lost wagon old new lost same = record {
  only = λ other is. or_right (pointwise nat_eq other wagon) (has_wagon other old) (ap (λ (ws : List (List ℕ)). list_any (is_at (slice_cmp nat_cmp other)) ws) (sym same) ∙ is);
  kept = λ whole. absurd (let both : true ≡ false = sym lost ∙ whole in cc);
  all = λ whole other is. absurd (let both : true ≡ false = sym lost ∙ whole in cc);
}
