-- Counts of wagons, as a loop makes them.
use mir.Val.{bool_byte}
use Rattle.std.proofs.Common.{◌≡◌, ◌+◌, ◌<◌, ◌≤◌, ℕ, Bool, true, false, cond, List, [], ◌∷◌, ◌++◌, length, get_or, take, length-take-le, refl, sym, subst, arith}
use Rattle.std.specs.Prelude.{◌↔◌, IsTrue}
use Rattle.std.specs.List.{AllZip}
use Rattle.std.proofs.lemmas.List.Sums.{count_by-le-length, sum_by-append}
use Rattle.wagons_and_orders.specs.declared.free_wagon.FreeWagon.{FreeWagon}
use Rattle.reply_texts.proofs.Lines.{taken_more}
use Rattle.plan_reasons.specs.Reasons.{IsCount}

-- a mark as a number
pub bool_byte-cond : (b : Bool) → bool_byte b ≡ cond b 1 0
bool_byte-cond true = refl
bool_byte-cond false = refl

pub bool_byte-le : (b : Bool) → bool_byte b ≤ 1
bool_byte-le true = omega arith
bool_byte-le false = omega arith

pub each_more : {A B : Type 0} (R : A → B → Type 0) (xs : List A) (ys : List B) (x : A) (y : B) → AllZip R xs ys → R x y → AllZip R (xs ++ x ∷ []) (ys ++ y ∷ [])
each_more R [] [] x y h r = (r, tt)
each_more R [] (b ∷ ys) x y h r = absurd h
each_more R (a ∷ xs) [] x y h r = absurd h
each_more R (a ∷ xs) (b ∷ ys) x y h r = (h.0, each_more R xs ys x y h.1 r)

same_length : {A B : Type 0} (R : A → B → Type 0) (xs : List A) (ys : List B) → AllZip R xs ys → length ys ≡ length xs
same_length R [] [] h = refl
same_length R [] (b ∷ ys) h = absurd h
same_length R (a ∷ xs) [] h = absurd h
same_length R (a ∷ xs) (b ∷ ys) h = omega (arith, same_length R xs ys h.1)

module _ (IsSo : FreeWagon → Type 0) where
  pub none_counted : IsCount IsSo [] 0
  none_counted = record { marks = []; each = tt; count = refl }

  -- one wagon more
  pub one_counted : (wagons : List FreeWagon) (n more : ℕ) (wagon : FreeWagon) (mark : Bool) → IsCount IsSo wagons n → IsTrue mark ↔ IsSo wagon → more ≡ n + cond mark 1 0 → IsCount IsSo (wagons ++ wagon ∷ []) more
  one_counted wagons n more wagon mark counted is e = record {
    marks = counted.marks ++ mark ∷ [];
    each = each_more (λ (wagon : FreeWagon) (mark : Bool). IsTrue mark ↔ IsSo wagon) wagons counted.marks wagon mark counted.each is;
    count = omega (arith, e, counted.count, sum_by-append (λ (b : Bool). cond b 1 0) counted.marks (mark ∷ []));
  }

  -- the same of the wagons that a loop goes over
  pub counted_next : (wagons : List FreeWagon) (i n more : ℕ) (wagon : FreeWagon) (mark : Bool) → i < length wagons → wagon ≡ get_or wagons i wagon → IsCount IsSo (take i wagons) n → IsTrue mark ↔ IsSo wagon → more ≡ n + cond mark 1 0
      → IsCount IsSo (take (i + 1) wagons) more
  counted_next wagons i n more wagon mark lt at counted is e =
      subst (λ (xs : List FreeWagon). IsCount IsSo xs more) (sym (taken_more wagons i wagon wagon lt at)) (one_counted (take i wagons) n more wagon mark counted is e)

  -- no more than there are
  pub counted_within : (wagons : List FreeWagon) (n : ℕ) → IsCount IsSo wagons n → n ≤ length wagons
  counted_within wagons n counted =
      omega (arith, counted.count, count_by-le-length (λ (b : Bool). b) counted.marks, same_length (λ (wagon : FreeWagon) (mark : Bool). IsTrue mark ↔ IsSo wagon) wagons counted.marks counted.each)

  pub counted_few : (wagons : List FreeWagon) (i n : ℕ) → i ≤ length wagons → IsCount IsSo (take i wagons) n → n ≤ i
  counted_few wagons i n le counted = omega (arith, counted_within (take i wagons) n counted, length-take-le i wagons le)
