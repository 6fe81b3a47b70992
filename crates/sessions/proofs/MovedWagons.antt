-- Wagons that receipts and seats moved, one receipt or one seat more.
use Rattle.std.proofs.Common.{◌≡◌, ◌≢◌, ◌∙◌, ◌+◌, ◌<◌, ◌≤◌, ◌||◌, ◌⊎◌, ◌++◌, ℕ, zero, suc, Bool, true, false, List, [], ◌∷◌, length, take, get_or, refl, sym, ap, subst, arith, inl, inr}
use Rattle.std.specs.Prelude.{Option, Some, None, IfSome, IfNone, slice_get, if◌then◌else◌, nat_eq}
use Rattle.std.specs.Cmp.Lexicographic.{pointwise, bytes_decides}
use Rattle.std.specs.List.{list_any}
use Rattle.std.proofs.lemmas.List.{take_more}
use Rattle.std.proofs.lemmas.List.Folds.{list_any-append}
use Rattle.std.proofs.lemmas.Option.{slice_get_read, slice_get_within}
use Rattle.std.proofs.Math.Nat.{eq-or-lt_of_le}
use Rattle.wagons_and_orders.specs.Numbers.{is_below}
use Rattle.sessions.specs.Crossings.{IsNotBehind, is_moved_by, is_wagon, of_file}
use Rattle.sessions.specs.FedLines.{wagon_of}
use Rattle.sessions.specs.Seat.{SeatValue}
use Rattle.sessions.specs.declared.crossing.Crossing.{Crossing}
use Rattle.sessions.specs.declared.receipt.Receipt.{Receipt}
use Rattle.sessions.specs.inner.Crossings.{IsFirstHeld, IsFirstOf, IsHeld, IsLeast, IsMovedAmong, IsMovedBut, IsMovedIn, least_of, one_of}
use Rattle.sessions.specs.inner.RefusedWagons.{RefusedWagonsValue, has_wagon}
use Rattle.sessions.proofs.LeastWagons.{least_both, least_same, not_below_itself}

some_same : {X : Type 0} (a b : X) → let o : Option X = Some a in o ≡ Some b → a ≡ b
some_same a b h = cc

or_left : (a b : Bool) → a ≡ true → (a || b) ≡ true
or_left true b h = refl
or_left false b h = absurd cc

or_right : (a b : Bool) → b ≡ true → (a || b) ≡ true
or_right true b h = refl
or_right false b h = h

or_split : (a b : Bool) → (a || b) ≡ true → (a ≡ true) ⊎ (b ≡ true)
or_split true b h = inl refl
or_split false b h = inr h

or_none : (a : Bool) → (a || false) ≡ true → a ≡ true
or_none true h = refl
or_none false h = h

-- ---- one receipt

one_here : (number : List ℕ) (receipt : Receipt) (refused : RefusedWagonsValue) (b : Bool) → wagon_of receipt.event ≡ Some number → has_wagon number refused ≡ b
    → IsLeast (IsMovedAmong (receipt ∷ []) refused) (if b then Some number else None)
one_here number receipt refused true is noted = (
  record { moved = rw is (or_left (pointwise nat_eq number number) false ((bytes_decides number number).1 refl)); noted = noted },
  λ wagon among.
      let moved : (is_wagon wagon (Some number) || false) ≡ true = ap (λ (o : Option (List ℕ)). is_wagon wagon o || false) (sym is) ∙ among.moved in
      let same : wagon ≡ number = (bytes_decides wagon number).0 (or_none (pointwise nat_eq wagon number) moved) in
      ap (is_below number) same ∙ not_below_itself number,
)
one_here number receipt refused false is noted = λ wagon among.
    let moved : (is_wagon wagon (Some number) || false) ≡ true = ap (λ (o : Option (List ℕ)). is_wagon wagon o || false) (sym is) ∙ among.moved in
    let same : wagon ≡ number = (bytes_decides wagon number).0 (or_none (pointwise nat_eq wagon number) moved) in
    let both : false ≡ true = sym noted ∙ ap (λ (w : List ℕ). has_wagon w refused) (sym same) ∙ among.noted in
    absurd cc

one_by : (receipt : Receipt) (refused : RefusedWagonsValue) (its : Option (List ℕ)) → wagon_of receipt.event ≡ its → IsLeast (IsMovedAmong (receipt ∷ []) refused) (one_of refused its)
one_by receipt refused None is = λ wagon among.
    let moved : false ≡ true = ap (λ (o : Option (List ℕ)). is_wagon wagon o || false) (sym is) ∙ among.moved in
    absurd cc
one_by receipt refused (Some number) is = one_here number receipt refused (has_wagon number refused) is refl

pub no_receipt : (refused : RefusedWagonsValue) (wagon : List ℕ) → IsMovedAmong [] refused wagon → ⊥
no_receipt refused wagon among = let moved : false ≡ true = among.moved in cc

-- one receipt more
pub receipt_more : (receipts : List Receipt) (index : ℕ) (receipt : Receipt) (refused : RefusedWagonsValue) (least : Option (List ℕ)) → index < length receipts → receipt ≡ get_or receipts index receipt
    → IsLeast (IsMovedAmong (take index receipts) refused) least → IsLeast (IsMovedAmong (take (index + 1) receipts) refused) (least_of least (one_of refused (wagon_of receipt.event)))
receipt_more receipts index receipt refused least within is before =
    let front = take index receipts in
    let grown : take (index + 1) receipts ≡ front ++ receipt ∷ [] = take_more receipts index receipt within ∙ ap (λ (r : Receipt). front ++ r ∷ []) (sym is) in
    let any : (wagon : List ℕ) → list_any (is_moved_by wagon) (take (index + 1) receipts) ≡ (list_any (is_moved_by wagon) front || list_any (is_moved_by wagon) (receipt ∷ [])) =
    λ wagon. ap (list_any (is_moved_by wagon)) grown ∙ list_any-append (is_moved_by wagon) front (receipt ∷ []) in
    least_both (IsMovedAmong front refused) (IsMovedAmong (receipt ∷ []) refused) (IsMovedAmong (take (index + 1) receipts) refused) least (one_of refused (wagon_of receipt.event))
    (λ wagon among. record { moved = any wagon ∙ or_left (list_any (is_moved_by wagon) front) (list_any (is_moved_by wagon) (receipt ∷ [])) among.moved; noted = among.noted })
    (λ wagon among. record { moved = any wagon ∙ or_right (list_any (is_moved_by wagon) front) (list_any (is_moved_by wagon) (receipt ∷ [])) among.moved; noted = among.noted })
    (λ wagon among. elim (or_split (list_any (is_moved_by wagon) front) (list_any (is_moved_by wagon) (receipt ∷ [])) (sym (any wagon) ∙ among.moved)) [
      | inl moved ↦ inl (record { moved = moved; noted = among.noted })
      | inr moved ↦ inr (record { moved = moved; noted = among.noted })
    ])
    before
    (one_by receipt refused (wagon_of receipt.event) refl)

-- ---- one seat

module _ (seats : List SeatValue) (index : ℕ) (refused : RefusedWagonsValue) where
  pub no_file : (wagon : List ℕ) → IsMovedBut seats index 0 refused wagon → ⊥
  no_file wagon moved = let within : moved.file < 0 = moved.within in absurd (omega arith)

  earlier_file : (file : ℕ) (wagon : List ℕ) → IsMovedBut seats index file refused wagon → IsMovedBut seats index (file + 1) refused wagon
  earlier_file file wagon moved = record { file = moved.file; within = omega (arith, moved.within); moved = moved.moved; noted = moved.noted }

  -- the file itself
  pub same_file : (file : ℕ) (least : Option (List ℕ)) → file ≡ index → IsLeast (IsMovedBut seats index file refused) least → IsLeast (IsMovedBut seats index (file + 1) refused) least
  same_file file least same before = least_same (IsMovedBut seats index file refused) (IsMovedBut seats index (file + 1) refused) least (earlier_file file)
      (λ wagon moved.
      let apart : moved.file ≡ index → ⊥ = moved.moved.apart in
      elim (eq-or-lt_of_le (let upto : moved.file ≤ file = omega (arith, moved.within) in upto)) [
        | inl at ↦ absurd (apart (at ∙ same))
        | inr less ↦ record { file = moved.file; within = less; moved = moved.moved; noted = moved.noted }
      ])
      before

  -- another file
  pub other_file : (file : ℕ) (seat : SeatValue) (least more : Option (List ℕ)) → (file ≡ index → ⊥) → slice_get seats file ≡ Some seat → IsLeast (IsMovedBut seats index file refused) least
      → IsLeast (IsMovedAmong seat.receipts refused) more → IsLeast (IsMovedBut seats index (file + 1) refused) (least_of least more)
  other_file file seat least more apart is before here =
      least_both (IsMovedBut seats index file refused) (IsMovedAmong seat.receipts refused) (IsMovedBut seats index (file + 1) refused) least more (earlier_file file)
      (λ wagon among. record { file = file; within = omega arith; moved = record { apart = apart; seat = seat; is_seat = is; moved = among.moved }; noted = among.noted })
      (λ wagon moved. elim (eq-or-lt_of_le (let upto : moved.file ≤ file = omega (arith, moved.within) in upto)) [
        | inl at ↦
            let its : moved.moved.seat ≡ seat = some_same moved.moved.seat seat (sym moved.moved.is_seat ∙ ap (slice_get seats) at ∙ is) in
            inr (record { moved = ap (λ (s : SeatValue). list_any (is_moved_by wagon) s.receipts) (sym its) ∙ moved.moved.moved; noted = moved.noted })
        | inr less ↦ inl (record { file = moved.file; within = less; moved = moved.moved; noted = moved.noted })
      ])
      before here

  -- where no wagon was noted
  pub none_moved : ((wagon : List ℕ) → has_wagon wagon refused ≡ false) → (wagon : List ℕ) → IsMovedBut seats index (length seats) refused wagon → ⊥
  none_moved none wagon moved = let both : false ≡ true = sym (none wagon) ∙ moved.noted in cc

  -- a wagon that was moved is moved in some file
  pub moved_somewhere : (least : Option (List ℕ)) (wagon : List ℕ) → least ≡ Some wagon → IsLeast (IsMovedBut seats index (length seats) refused) least → ((file : ℕ) → IsMovedIn seats index file wagon → ⊥) → ⊥
  moved_somewhere None wagon is least none = absurd cc
  moved_somewhere (Some first) wagon is least none =
      let same : first ≡ wagon = some_same first wagon is in
      none least.0.file (subst (IsMovedIn seats index least.0.file) same least.0.moved)

-- ---- the file that moved a wagon

not_here : (seats : List SeatValue) (index file : ℕ) (seat : SeatValue) (wagon : List ℕ) → slice_get seats file ≡ Some seat → list_any (is_moved_by wagon) seat.receipts ≡ false → IsMovedIn seats index file wagon → ⊥
not_here seats index file seat wagon is none moved =
    let its : seat ≡ moved.seat = some_same seat moved.seat (sym is ∙ moved.is_seat) in
    let both : false ≡ true = sym none ∙ ap (λ (s : SeatValue). list_any (is_moved_by wagon) s.receipts) its ∙ moved.moved in
    cc

pub file_more : (seats : List SeatValue) (index file : ℕ) (wagon : List ℕ) → ((other : ℕ) → other < file → IsMovedIn seats index other wagon → ⊥) → (IsMovedIn seats index file wagon → ⊥)
    → (other : ℕ) → other < file + 1 → IsMovedIn seats index other wagon → ⊥
file_more seats index file wagon before here other within moved =
    elim (eq-or-lt_of_le (let upto : other ≤ file = omega (arith, within) in upto)) [
      | inl at ↦ here (subst (λ (k : ℕ). IsMovedIn seats index k wagon) at moved)
      | inr less ↦ before other less moved
    ]

pub itself : (seats : List SeatValue) (index file : ℕ) (wagon : List ℕ) → file ≡ index → IsMovedIn seats index file wagon → ⊥
itself seats index file wagon same moved = moved.apart same

pub here_not : (seats : List SeatValue) (index file : ℕ) (seat : SeatValue) (wagon : List ℕ) → file < length seats → seat ≡ get_or seats file seat → list_any (is_moved_by wagon) seat.receipts ≡ false
    → IsMovedIn seats index file wagon → ⊥
here_not seats index file seat wagon within is none = not_here seats index file seat wagon (slice_get_read seats (length seats) file seat refl within is) none

pub in_no_file : (seats : List SeatValue) (index : ℕ) (wagon : List ℕ) → ((other : ℕ) → other < length seats → IsMovedIn seats index other wagon → ⊥) → (file : ℕ) → IsMovedIn seats index file wagon → ⊥
in_no_file seats index wagon none file moved = none file (slice_get_within seats file moved.seat moved.is_seat) moved

-- there are few files
pub within_files : (seats : List SeatValue) (index file : ℕ) (wagon : List ℕ) → IsMovedIn seats index file wagon → length seats ≤ 16 → file < 16
within_files seats index file wagon moved few = let within : file < length seats = slice_get_within seats file moved.seat moved.is_seat in omega arith

-- ---- crossings

held_at : (seats : List SeatValue) (all : List RefusedWagonsValue) (index : ℕ) (refused : RefusedWagonsValue) (other : Crossing) → slice_get all index ≡ Some refused → IsHeld seats all other → other.refused_in ≡ suc index
    → (moved_in : ℕ) → other.moved_in ≡ moved_in → IsMovedBut seats index (length seats) refused other.wagon
held_at seats all index refused other is held at zero number = absurd (let none : of_file seats zero ≡ Some held.moving = ap (of_file seats) (sym number) ∙ held.is_moving in cc)
held_at seats all index refused other is held at (suc file) number =
    let seat : slice_get seats file ≡ Some held.moving = ap (of_file seats) (sym number) ∙ held.is_moving in
    let same : held.refusing ≡ refused = some_same held.refusing refused (sym held.is_refusing ∙ ap (of_file all) at ∙ is) in
    let apart : other.moved_in ≡ other.refused_in → ⊥ = held.apart in
    record {
      file = file;
      within = slice_get_within seats file held.moving seat;
      moved = record { apart = λ e. apart (number ∙ ap suc e ∙ sym at); seat = held.moving; is_seat = seat; moved = held.moved };
      noted = ap (has_wagon other.wagon) (sym same) ∙ held.noted;
    }

some_number : (all : List RefusedWagonsValue) (k : ℕ) (refused : RefusedWagonsValue) → of_file all k ≡ Some refused → 0 < k
some_number all zero refused is = absurd cc
some_number all (suc k) refused is = omega arith

-- no file before the first
pub none_before : (seats : List SeatValue) (all : List RefusedWagonsValue) (other : Crossing) → IsHeld seats all other → 0 < other.refused_in
none_before seats all other held = some_number all other.refused_in held.refusing held.is_refusing

-- a file at which there is no crossing
pub file_without : (seats : List SeatValue) (all : List RefusedWagonsValue) (index : ℕ) (refused : RefusedWagonsValue) (found : Option Crossing) → found ≡ None → index < length all → refused ≡ get_or all index refused
    → IsFirstOf seats index refused found → ((other : Crossing) → IsHeld seats all other → index < other.refused_in) → (other : Crossing) → IsHeld seats all other → index + 1 < other.refused_in
file_without seats all index refused None is within at none before other held =
    let wagons : slice_get all index ≡ Some refused = slice_get_read all (length all) index refused refl within at in
    let after : index < other.refused_in = before other held in
    elim (eq-or-lt_of_le (let upto : suc index ≤ other.refused_in = omega (arith, after) in upto)) [
      | inl number ↦ absurd (none other.wagon (held_at seats all index refused other wagons held (sym number) other.moved_in refl))
      | inr less ↦ omega (arith, less)
    ]
file_without seats all index refused (Some crossing) is within at none before other held = absurd cc

-- a file at which there is one
pub file_with : (seats : List SeatValue) (all : List RefusedWagonsValue) (index : ℕ) (refused : RefusedWagonsValue) (found : Option Crossing) (crossing : Crossing) → found ≡ Some crossing → index < length all
    → refused ≡ get_or all index refused → IsFirstOf seats index refused found → ((other : Crossing) → IsHeld seats all other → index < other.refused_in) → IsFirstHeld seats all (Some crossing)
file_with seats all index refused None crossing is within at first before = absurd cc
file_with seats all index refused (Some found) crossing is within at first before =
    let wagons : slice_get all index ≡ Some refused = slice_get_read all (length all) index refused refl within at in
    subst (λ (c : Crossing). IsFirstHeld seats all (Some c)) (some_same found crossing is) (record {
      holds =
          let moved = first.2 in
          record {
            moving = moved.2.seat;
            is_moving = ap (of_file seats) moved.1 ∙ moved.2.is_seat;
            moved = moved.2.moved;
            refusing = refused;
            is_refusing = ap (of_file all) first.0 ∙ wagons;
            noted = first.1;
            apart = λ e.
                let numbers : suc moved.0 ≡ suc index = sym moved.1 ∙ e ∙ first.0 in
                let files : moved.0 ≡ index = omega (arith, numbers) in
                moved.2.apart files;
          };
      first = λ other held.
          let after : index < other.refused_in = before other held in
          elim (eq-or-lt_of_le (let upto : suc index ≤ other.refused_in = omega (arith, after) in upto)) [
            | inl number ↦ inr (first.0 ∙ number, first.3 other.wagon (held_at seats all index refused other wagons held (sym number) other.moved_in refl))
            | inr less ↦ inl (omega (arith, first.0, less))
          ];
    })

past : (all : List RefusedWagonsValue) (k : ℕ) (refused : RefusedWagonsValue) → length all < k → of_file all k ≡ Some refused → ⊥
past all zero refused late is = absurd (omega arith)
past all (suc k) refused late is = let within : k < length all = slice_get_within all k refused is in absurd (omega (arith, late, within))

-- no file is left
pub no_file_left : (seats : List SeatValue) (all : List RefusedWagonsValue) → ((other : Crossing) → IsHeld seats all other → length all < other.refused_in) → IsFirstHeld seats all None
no_file_left seats all none = record {
  holds = tt;
  first = λ other held. absurd (past all other.refused_in held.refusing (none other held) held.is_refusing);
}
