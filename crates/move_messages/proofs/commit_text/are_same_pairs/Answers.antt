use Rattle.std.proofs.Common.{◌≡◌, ◌∙◌, ◌&&◌, ℕ, Bool, true, false, List, refl, sym, ap}
use Rattle.std.specs.Prelude.{nat_eq}
use Rattle.std.specs.Cmp.Lexicographic.{bytes_decides, pointwise}
use Rattle.std.proofs.lemmas.Slice.Eq.{slice_eq-Decides}
use Rattle.move_messages.specs.Pairs.{pair_eq}
use Rattle.move_messages.proofs.commit_text.are_same_pairs.Goals as goal

both_true : (a b : Bool) → (a && b) ≡ true → (a ≡ true) × (b ≡ true)
both_true true true h = (refl, refl)
both_true true false h = absurd cc
both_true false b h = absurd cc

same_pair : (a b : List ℕ × List ℕ) → pair_eq a b ≡ true → a ≡ b
same_pair a b h =
    let parts = both_true (pointwise nat_eq a.0 b.0) (pointwise nat_eq a.1 b.1) h in
    let first = (bytes_decides a.0 b.0).0 parts.0 in
    let second = (bytes_decides a.1 b.1).0 parts.1 in
    λ i. (first i, second i)

both_are : (a b : Bool) → a ≡ true → b ≡ true → (a && b) ≡ true
both_are a b h k = rw h k

itself : (a b : List ℕ × List ℕ) → a ≡ b → pair_eq a b ≡ true
itself a b h =
    ap (pair_eq a) (sym h) ∙ both_are (pointwise nat_eq a.0 a.0) (pointwise nat_eq a.1 a.1) ((bytes_decides a.0 a.0).1 refl) ((bytes_decides a.1 a.1).1 refl)

pub returns : goal.returns
returns c = slice_eq-Decides (λ a b. (same_pair a b, itself a b)) c.args.one.now c.args.other.now _ c.eq.ensures
