-- The entries of the manual that a number or a name asks for.
use Rattle.std.proofs.Common.{◌≡◌, ◌∙◌, ◌==◌, ◌+◌, ◌<◌, ◌≤◌, ℕ, Bool, true, false, not, nat_eq, List, [], ◌∷◌, ◌++◌, length, get_or, drop, Option, Some, None, Contains, codes, decimal, MatchOption, ap, ap₂, refl, subst, sym, arith, inl, inr, append_assoc}
use Rattle.std.proofs.lemmas.Bool.{cases_Bool, cases_lt, ltb-true}
use Rattle.std.proofs.lemmas.List.{get_or_append_left, length-append, map-append, take-append-drop}
use Rattle.std.proofs.lemmas.List.Elements.{All-nil, All-push}
use Rattle.std.proofs.lemmas.List.Folds.{list_all_at}
use Rattle.std.proofs.lemmas.List.Quantifiers.{Any-push}
use Rattle.std.proofs.lemmas.Slice.Eq.{bytes_eq-Decides}
use Rattle.std.proofs.lemmas.Str.Pattern.{IsSplitOnceResult, split_after}
use Rattle.std.specs.Borrow.{Bor}
use Rattle.std.specs.Fmt.{digits}
use Rattle.std.specs.List.{Any, find, list_all}
use Rattle.std.specs.Option.{option_map_or}
use Rattle.std.specs.Prelude.{nat_lt}
use Rattle.std.specs.Str.{bytes_eq}
use Rattle.std.specs.Io.{StartsWith}
use Rattle.command_line.specs.Explained.{AreEntriesFor, AreEntriesNamed, HasName, IsEntryAlone, IsNamedEntry, IsNumberText}
use Rattle.command_line.specs.Values.{Text, all_lent, number_in}
use Rattle.command_line.specs.inner.Named.{AreNamedBelow, SaysName}
use Rattle.faults.specs.Manual.{IsEntryFor, IsEntryOf, heading}
use Rattle.faults.specs.RefusalNumbers.{is_refusal_number, refusals}

abbrev pub Refusal : Type 0
Refusal = ℕ × List ℕ

-- a test that all pass is passed by each
listed : {X : Type 0} (p : X → Bool) (xs : List X) (x : X) → list_all p xs ≡ true → Contains xs x → p x ≡ true
listed p xs x all has = elim (cases_Bool (p x)) [
  | inl passed ↦ passed
  | inr failed ↦
      let bad : list_all p xs ≡ false = list_all_at p xs has.0 x has.1 (ap p has.2 ∙ failed) in
      let never : false ≡ true = sym bad ∙ all in
      cc
]

-- ---- the table of refusals

-- the line on which an entry begins
abbrev pub title : Refusal → List ℕ
title refusal = codes "## " ++ decimal refusal.0 ++ codes " " ++ refusal.1

abbrev has_own_name : Refusal → Bool
has_own_name r = option_map_or (λ (s : Refusal). bytes_eq s.1 r.1) (find (λ (s : Refusal). nat_eq s.0 r.0) refusals) false

-- the first refusal of a number is the one that has it
own_names : list_all has_own_name refusals ≡ true
unfolding refusals
own_names = refl

abbrev has_known_number : Refusal → Bool
has_known_number r = is_refusal_number r.0

known_numbers : list_all has_known_number refusals ≡ true
unfolding refusals
known_numbers = refl

abbrev is_small : Refusal → Bool
is_small r = nat_lt r.0 1000

small_numbers : list_all is_small refusals ≡ true
unfolding refusals
small_numbers = refl

abbrev is_no_feed : ℕ → Bool
is_no_feed c = not (c == 10)

abbrev has_one_line : Refusal → Bool
has_one_line r = list_all is_no_feed (title r)

one_line : list_all has_one_line refusals ≡ true
unfolding refusals digits
one_line = refl

abbrev is_no_space : ℕ → Bool
is_no_space c = not (c == 32)

abbrev has_plain_number : Refusal → Bool
has_plain_number r = list_all is_no_space (decimal r.0)

plain_numbers : list_all has_plain_number refusals ≡ true
unfolding refusals digits
plain_numbers = refl

-- two refusals of one number have one name
same_name : (r s : Refusal) → Contains refusals r → Contains refusals s → r.0 ≡ s.0 → r.1 ≡ s.1
same_name r s has_r has_s same =
    let found : ℕ → Option Refusal = λ (n : ℕ). find (λ (t : Refusal). nat_eq t.0 n) refusals in
    let own_s = subst (λ (n : ℕ). option_map_or (λ (t : Refusal). bytes_eq t.1 s.1) (found n) false ≡ true) (sym same) (listed has_own_name refusals s own_names has_s) in
    go (found r.0) (listed has_own_name refusals r own_names has_r) own_s
  where
    go : (o : Option Refusal) → option_map_or (λ (t : Refusal). bytes_eq t.1 r.1) o false ≡ true → option_map_or (λ (t : Refusal). bytes_eq t.1 s.1) o false ≡ true → r.1 ≡ s.1
    go None a b = cc
    go (Some t) a b = sym ((bytes_eq-Decides t.1 r.1).0 a) ∙ (bytes_eq-Decides t.1 s.1).0 b

-- ---- an entry's line and name

-- a character that no test lets pass doesn't stand there
lacks : (p : ℕ → Bool) (c : ℕ) (xs : List ℕ) → p c ≡ false → list_all p xs ≡ true → (i : ℕ) → i < length xs → get_or xs i 0 ≡ c → ⊥
lacks p c xs refused all i within is =
    let bad : list_all p xs ≡ false = list_all_at p xs i 0 within (ap p is ∙ refused) in
    let never : false ≡ true = sym bad ∙ all in
    cc

begins : (r : Refusal) (entry : List ℕ) → IsEntryOf r entry → entry ≡ title r ++ 10 ∷ drop (length (heading r.0 r.1)) entry
begins r entry is =
    let n = length (heading r.0 r.1) in
    sym (take-append-drop n entry) ∙ ap (λ (xs : List ℕ). xs ++ drop n entry) is ∙ append_assoc (title r) (10 ∷ []) (drop n entry)

-- the line of an entry is its title
pub line_is : (r : Refusal) (entry : List ℕ) (parts : Option (Bor (List ℕ) × Bor (List ℕ))) → Contains refusals r → IsEntryOf r entry → IsSplitOnceResult 10 entry parts
    → MatchOption parts ⊥ (λ x. x.0.now ≡ title r)
line_is r entry None has is cut =
    split_after 10 entry (title r) (drop (length (heading r.0 r.1)) entry) None cut (omega arith) (begins r entry is) (lacks is_no_feed 10 (title r) refl (listed has_one_line refusals r one_line has))
line_is r entry (Some x) has is cut =
    (split_after 10 entry (title r) (drop (length (heading r.0 r.1)) entry) (Some x) cut (omega arith) (begins r entry is) (lacks is_no_feed 10 (title r) refl (listed has_one_line refusals r one_line has))).0

-- what stands behind its two marks, and behind the number there
abbrev pub behind_marks : Refusal → List ℕ
behind_marks r = decimal r.0 ++ codes " " ++ r.1

pub marks_end : (r : Refusal) (line : List ℕ) (parts : Option (Bor (List ℕ) × Bor (List ℕ))) → line ≡ title r → IsSplitOnceResult 32 line parts
    → MatchOption parts ⊥ (λ x. x.1.now ≡ behind_marks r)
marks_end r line None is cut = split_after 32 line (codes "##") (behind_marks r) None cut (omega arith) is (lacks is_no_space 32 (codes "##") refl refl)
marks_end r line (Some x) is cut = (split_after 32 line (codes "##") (behind_marks r) (Some x) cut (omega arith) is (lacks is_no_space 32 (codes "##") refl refl)).1

pub number_ends : (r : Refusal) (text : List ℕ) (parts : Option (Bor (List ℕ) × Bor (List ℕ))) → Contains refusals r → text ≡ behind_marks r → IsSplitOnceResult 32 text parts
    → MatchOption parts ⊥ (λ x. x.1.now ≡ r.1)
number_ends r text None has is cut =
    split_after 32 text (decimal r.0) r.1 None cut (omega arith) (is ∙ append_assoc (decimal r.0) (codes " ") r.1) (lacks is_no_space 32 (decimal r.0) refl (listed has_plain_number refusals r plain_numbers has))
number_ends r text (Some x) has is cut =
    (split_after 32 text (decimal r.0) r.1 (Some x) cut (omega arith) (is ∙ append_assoc (decimal r.0) (codes " ") r.1) (lacks is_no_space 32 (decimal r.0) refl (listed has_plain_number refusals r plain_numbers has))).1

-- ---- the entry of a number, by its name

pub named : (number : ℕ) (name entry : List ℕ) → IsEntryFor number entry → SaysName entry name true → IsNamedEntry number name entry
named number name entry of says = (of.0, of.1, of.2, (bytes_eq-Decides of.0.1 name).0 (sym (says of.0 of.1 of.3)), of.3)

pub named_otherwise : (number : ℕ) (name entry : List ℕ) → IsEntryFor number entry → SaysName entry name false → HasName number name → ⊥
named_otherwise number name entry of says has =
    let is : of.0.1 ≡ name = same_name of.0 has.0 of.1 has.1 (of.2 ∙ sym has.2) ∙ has.3 in
    let never : false ≡ true = says of.0 of.1 of.3 ∙ (bytes_eq-Decides of.0.1 name).1 is in
    cc

pub not_named : (number : ℕ) (name : List ℕ) → false ≡ is_refusal_number number → HasName number name → ⊥
not_named number name unknown has =
    let known : is_refusal_number has.0.0 ≡ true = listed has_known_number refusals has.0 known_numbers has.1 in
    let never : false ≡ true = unknown ∙ ap is_refusal_number (sym has.2) ∙ known in
    cc

-- ---- the entries of a name, one number after the other

pub none_below : (name : Text) (entries : List Text) → entries ≡ [] → AreNamedBelow name 0 entries
none_below name entries none = rw none (record { each = All-nil _; below = λ r has same low. absurd (omega arith) })

Any-left : {X : Type 0} (P : X → Type 0) (xs ys : List X) → Any P xs → Any P (xs ++ ys)
Any-left P xs ys any = (any.0, any.1, omega (arith, length-append xs ys), get_or_append_left xs ys any.1 any.0 any.2 ∙ any.3, any.4)

pub one_more : (name : Text) (n : ℕ) (entries : List Text) (entry : Text) → AreNamedBelow name n entries → IsNamedEntry n name entry → AreNamedBelow name (n + 1) (entries ++ entry ∷ [])
one_more name n entries entry before is = record {
  each = All-push (λ e. (number : ℕ) × IsNamedEntry number name e) entries entry before.each (n, is);
  below = λ r has same low. elim (cases_lt r.0 n) [
    | inl under ↦ Any-left (λ e. IsEntryOf r e) entries (entry ∷ []) (before.below r has same under)
    | inr over ↦
        let number : r.0 ≡ n = omega arith in
        let title_is : heading is.0.0 is.0.1 ≡ heading r.0 r.1 = ap₂ heading (is.2 ∙ sym number) (is.3 ∙ sym same) in
        Any-push (λ e. IsEntryOf r e) entries entry (subst (StartsWith entry) title_is is.4)
  ];
}

pub none_more : (name : Text) (n : ℕ) (entries : List Text) → AreNamedBelow name n entries → (HasName n name → ⊥) → AreNamedBelow name (n + 1) entries
none_more name n entries before other = record {
  each = before.each;
  below = λ r has same low. elim (cases_lt r.0 n) [
    | inl under ↦ before.below r has same under
    | inr over ↦
        let number : r.0 ≡ n = omega arith in
        absurd (other (r, has, number, same))
  ];
}

pub all_numbers : (name : Text) (n : ℕ) (entries : List Text) → 1000 ≤ n → AreNamedBelow name n entries → AreEntriesNamed name entries
all_numbers name n entries enough so_far = record {
  each = so_far.each;
  all = λ r has same.
      let small : r.0 < 1000 = ltb-true r.0 1000 (listed is_small refusals r small_numbers has) in
      so_far.below r has same (omega arith);
}

pub pushed : (name : Text) (n : ℕ) (old new : List (Bor Text)) (entry : Bor Text) → new ≡ old ++ entry ∷ [] → AreNamedBelow name n (all_lent old) → IsNamedEntry n name entry.now
    → AreNamedBelow name (n + 1) (all_lent new)
pushed name n old new entry grown before is = rw (grown, map-append) (one_more name n (all_lent old) entry.now before is)

-- ---- a code

pub of_number : (code : Text) (number : ℕ) (entries : List Text) → IsNumberText code × (number ≡ number_in code) → IsEntryAlone number entries → AreEntriesFor code entries
of_number code number entries says alone = record {
  of_a_number = λ text. subst (λ (n : ℕ). IsEntryAlone n entries) says.1 alone;
  of_a_name = λ other. absurd (other says.0);
}

pub of_name : (code : Text) (entries : List Text) → (IsNumberText code → ⊥) → AreEntriesNamed code entries → AreEntriesFor code entries
of_name code entries other named = record { of_a_number = λ text. absurd (other text); of_a_name = λ text. named }
