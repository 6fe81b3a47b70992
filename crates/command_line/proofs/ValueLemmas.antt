-- Numbers that are read off texts, limits, and wagons that are read one after the other.
use Rattle.std.proofs.Common.{◌≡◌, ◌∙◌, ℕ, Bool, true, false, ◌&&◌, nat_le, if◌then◌else◌, ◌+◌, ◌<◌, ◌≤◌, IfSome, option_map, List, [], ◌∷◌, ◌++◌, length, take, get_or, max, min, Option, Some, None, Result, Ok, Err, unwrap_or, ap, ap₂, arith, refl, sym}
use Rattle.std.proofs.lemmas.List.{map-append, take_all, take_more}
use Rattle.std.specs.Borrow.{Bor}
use Rattle.std.specs.Str.Parse.{ParsesUnsigned}
use Rattle.clap.specs.Matches.{ReadsOne}
use Rattle.command_line.specs.Values.{AreReadAs, IsReadAs, SaysNumber, Text, all_lent, number_in}
use Rattle.price_checker.specs.Limits.{LimitNumbers, limits_of, max_entries, max_kept_problems}
use Rattle.rail_codes.specs.declared.code_fault.CodeFault.{CodeFault}

-- a text that says a number reads as that number
pub number_read : {E : Type 0} (G : Text → Result ℕ E → Type 0) (text : Text) (r : Option ℕ)
    → ReadsOne G text r → ((x : Result ℕ E) → G text x → ParsesUnsigned 64 10 text x) → SaysNumber text → r ≡ Some (number_in text)
number_read G text (Some v) read only says = ap Some (only (Ok v) read).1
number_read G text None read only says = absurd (only (Err read.0) read.1 says)

-- what stands between the bounds stays
pub clamped : (r : Option ℕ) (n most u result : ℕ) → r ≡ Some n → 1 ≤ n → n ≤ most → u ≡ unwrap_or r most → result ≡ max 1 (min u most) → result ≡ n
clamped r n most u result is low high chosen bounded =
    let same : u ≡ n = chosen ∙ ap (λ o. unwrap_or o most) is in
    omega arith

pub no_texts : {C : Type 0} (read : Text → Result C CodeFault) (texts : List (Bor Text)) (found : List C) → found ≡ [] → AreReadAs read (all_lent (take 0 texts)) found
no_texts read [] found none = rw none refl
no_texts read (text ∷ texts) found none = rw none refl

-- one more text, and what it is read as
pub texts_more : {C : Type 0} (read : Text → Result C CodeFault) (texts : List (Bor Text)) (found more : List C) (i : ℕ) (d : Bor Text) (text : Text) (code : C)
    → i < length texts → text ≡ (get_or texts i d).now → AreReadAs read (all_lent (take i texts)) found → more ≡ found ++ code ∷ [] → read text ≡ Ok code
    → AreReadAs read (all_lent (take (i + 1) texts)) more
texts_more {C} read texts found more i d text code within is before grown says =
    let last : read (get_or texts i d).now ≡ Ok code = ap read (sym is) ∙ says in
    let now : Bor Text → Text = λ (t : Bor Text). t.now in
    let ok : C → Result C CodeFault = λ (c : C). Ok c in
    rw (
      grown,
      take_more texts i d within,
      map-append now (take i texts) (get_or texts i d ∷ []),
      map-append read (all_lent (take i texts)) ((get_or texts i d).now ∷ []),
      map-append ok found (code ∷ []),
    ) (ap₂ (λ xs ys. xs ++ ys) before (ap (λ x. x ∷ []) last))

pub all_texts : {C : Type 0} (read : Text → Result C CodeFault) (texts : List (Bor Text)) (found : List C) (i : ℕ) → length texts ≤ i → AreReadAs read (all_lent (take i texts)) found
    → AreReadAs read (all_lent texts) found
all_texts read texts found i all so_far = rw (take_all i texts all) at so_far

-- a value that is given and read, and none
pub read_some : {C : Type 0} (read : Text → Result C CodeFault) (value : Option Text) (text : Text) (code : C) → Some text ≡ value → read text ≡ Ok code → IsReadAs read value (Some code)
read_some read value text code is says = ap (option_map read) (sym is) ∙ ap Some says

pub read_none : {C : Type 0} (read : Text → Result C CodeFault) (value : Option Text) → None ≡ value → IsReadAs read value None
read_none read value is = ap (option_map read) (sym is)

-- the numbers of limits
chosen : (b : Bool) (x l : LimitNumbers) → (if b then Some x else None) ≡ Some l → x ≡ l
chosen true x l is = ap (λ o. unwrap_or o x) is
chosen false x l is = cc

pub limits_are : (entries kept : ℕ) (limits : LimitNumbers) → limits_of entries kept ≡ Some limits → (entries ≡ limits.entries) × (kept ≡ limits.kept)
limits_are entries kept limits is =
    let same = chosen ((nat_le 1 entries && nat_le entries max_entries) && (nat_le 1 kept && nat_le kept max_kept_problems)) (record { entries = entries; kept = kept }) limits is in
    (ap (λ (l : LimitNumbers). l.entries) same, ap (λ (l : LimitNumbers). l.kept) same)

pub limit_is : (found : Option ℕ) (limit bytes : ℕ) → IfSome found (λ l. l ≡ bytes) → found ≡ Some limit → bytes ≡ limit
limit_is found limit bytes kept is =
    let same : limit ≡ bytes = rw is at kept in
    sym same
