-- Crossings of files, by the wagons that the files noted and by the receipts of their seats.
use Rattle.std.proofs.Common.{◌≡◌, ◌≢◌, ◌∙◌, ◌+◌, ◌<◌, ◌≤◌, ◌||◌, ◌⊎◌, ℕ, zero, suc, Bool, true, false, List, [], ◌∷◌, length, take, refl, sym, ap, subst, arith, inl, inr}
use Rattle.std.specs.Prelude.{Option, Some, None, IfSome, slice_get, if◌then◌else◌}
use Rattle.std.specs.List.{list_any}
use Rattle.sessions.specs.Crossings.{IsCrossing, IsFirstCrossing, IsNotBehind, is_moved_by, is_out_of_step, of_file}
use Rattle.sessions.specs.FeedCounts.{FileAnswers}
use Rattle.sessions.specs.Seat.{SeatValue}
use Rattle.sessions.specs.declared.crossing.Crossing.{Crossing}
use Rattle.sessions.specs.inner.Crossings.{IsFirstHeld, IsHeld}
use Rattle.sessions.specs.inner.RefusedWagons.{AreNotedBy, RefusedWagonsValue, has_wagon, no_wagon}

-- the answers of files, their seats, and the wagons that they noted
pub data AreSides : List FileAnswers → List SeatValue → List RefusedWagonsValue → Type 0 where
  no_side : AreSides [] [] []
  one_side : {its : FileAnswers} {seat : SeatValue} {wagons : RefusedWagonsValue} {answers : List FileAnswers} {seats : List SeatValue} {refused : List RefusedWagonsValue}
      → its.seat ≡ seat → AreNotedBy its.counts no_wagon wagons → AreSides answers seats refused → AreSides (its ∷ answers) (seat ∷ seats) (wagons ∷ refused)

-- those of one file
record IsSide (answers : List FileAnswers) (seats : List SeatValue) (refused : List RefusedWagonsValue) (k : ℕ) : Type 0 where
  its : FileAnswers
  wagons : RefusedWagonsValue
  is_its : of_file answers k ≡ Some its
  is_seat : of_file seats k ≡ Some its.seat
  are_wagons : of_file refused k ≡ Some wagons
  noted : AreNotedBy its.counts no_wagon wagons

side_later : (its : FileAnswers) (seat : SeatValue) (wagons : RefusedWagonsValue) (answers : List FileAnswers) (seats : List SeatValue) (refused : List RefusedWagonsValue) (k : ℕ)
    → IsSide answers seats refused (suc k) → IsSide (its ∷ answers) (seat ∷ seats) (wagons ∷ refused) (suc (suc k))
side_later its seat wagons answers seats refused k h = record { its = h.its; wagons = h.wagons; is_its = h.is_its; is_seat = h.is_seat; are_wagons = h.are_wagons; noted = h.noted }

-- a file for which something stands on one side has the others
side_by_seat : {answers : List FileAnswers} {seats : List SeatValue} {refused : List RefusedWagonsValue} (k : ℕ) (seat : SeatValue) → AreSides answers seats refused → of_file seats k ≡ Some seat → IsSide answers seats refused k
side_by_seat zero seat sides is = absurd cc
side_by_seat (suc k) seat no_side is = absurd cc
side_by_seat (suc zero) seat (one_side {its = its} {wagons = wagons} same noted others) is =
    record { its = its; wagons = wagons; is_its = refl; is_seat = ap (λ (s : SeatValue). Some s) (sym same); are_wagons = refl; noted = noted }
side_by_seat (suc (suc k)) seat (one_side same noted others) is = side_later _ _ _ _ _ _ k (side_by_seat (suc k) seat others is)

side_by_wagons : {answers : List FileAnswers} {seats : List SeatValue} {refused : List RefusedWagonsValue} (k : ℕ) (wagons : RefusedWagonsValue) → AreSides answers seats refused → of_file refused k ≡ Some wagons → IsSide answers seats refused k
side_by_wagons zero wagons sides is = absurd cc
side_by_wagons (suc k) wagons no_side is = absurd cc
side_by_wagons (suc zero) wagons (one_side {its = its} {wagons = its_wagons} same noted others) is =
    record { its = its; wagons = its_wagons; is_its = refl; is_seat = ap (λ (s : SeatValue). Some s) (sym same); are_wagons = refl; noted = noted }
side_by_wagons (suc (suc k)) wagons (one_side same noted others) is = side_later _ _ _ _ _ _ k (side_by_wagons (suc k) wagons others is)

side_by_answers : {answers : List FileAnswers} {seats : List SeatValue} {refused : List RefusedWagonsValue} (k : ℕ) (its : FileAnswers) → AreSides answers seats refused → of_file answers k ≡ Some its → IsSide answers seats refused k
side_by_answers zero its sides is = absurd cc
side_by_answers (suc k) its no_side is = absurd cc
side_by_answers (suc zero) its (one_side {its = first} {wagons = wagons} same noted others) is =
    record { its = first; wagons = wagons; is_its = refl; is_seat = ap (λ (s : SeatValue). Some s) (sym same); are_wagons = refl; noted = noted }
side_by_answers (suc (suc k)) its (one_side same noted others) is = side_later _ _ _ _ _ _ k (side_by_answers (suc k) its others is)

some_same : {X : Type 0} (a b : X) → let o : Option X = Some a in o ≡ Some b → a ≡ b
some_same a b h = cc

or_none : (a : Bool) → (a || false) ≡ true → a ≡ true
or_none true h = refl
or_none false h = h

or_first : (a b : Bool) → a ≡ true → (a || b) ≡ true
or_first true b h = refl
or_first false b h = absurd cc

-- where no file lost a wagon, this one didn't
lost_any : (a b : Bool) → (a || b) ≡ false → (a ≡ false) × (b ≡ false)
lost_any false b h = (refl, h)
lost_any true b h = absurd cc

not_lost : (refused : List RefusedWagonsValue) (k : ℕ) (wagons : RefusedWagonsValue) → list_any (λ (w : RefusedWagonsValue). w.is_lost) refused ≡ false → of_file refused k ≡ Some wagons → wagons.is_lost ≡ false
not_lost refused zero wagons none is = absurd cc
not_lost [] (suc k) wagons none is = absurd cc
not_lost (first ∷ refused) (suc zero) wagons none is =
    let both = lost_any first.is_lost (list_any (λ (w : RefusedWagonsValue). w.is_lost) refused) none in
    ap (λ (w : RefusedWagonsValue). w.is_lost) (sym (some_same first wagons is)) ∙ both.0
not_lost (first ∷ refused) (suc (suc k)) wagons none is =
    not_lost refused (suc k) wagons (lost_any first.is_lost (list_any (λ (w : RefusedWagonsValue). w.is_lost) refused) none).1 is

module _ (answers : List FileAnswers) (seats : List SeatValue) (refused : List RefusedWagonsValue) (sides : AreSides answers seats refused) where
  crossing_by : (c : Crossing) → IsHeld seats refused c → IsCrossing answers c
  crossing_by c held =
      let moving = side_by_seat c.moved_in held.moving sides held.is_moving in
      let refusing = side_by_wagons c.refused_in held.refusing sides held.is_refusing in
      let seat : held.moving ≡ moving.its.seat = some_same held.moving moving.its.seat (sym held.is_moving ∙ moving.is_seat) in
      let wagons : held.refusing ≡ refusing.wagons = some_same held.refusing refusing.wagons (sym held.is_refusing ∙ refusing.are_wagons) in
      let noted : has_wagon c.wagon refusing.wagons ≡ true = ap (has_wagon c.wagon) (sym wagons) ∙ held.noted in
      record {
        moving = moving.its;
        is_moving = moving.is_its;
        moved = ap (λ (s : SeatValue). list_any (is_moved_by c.wagon) s.receipts) (sym seat) ∙ held.moved;
        refusing = refusing.its;
        is_refusing = refusing.is_its;
        refused = or_none (list_any (is_out_of_step c.wagon) refusing.its.counts) (refusing.noted.only c.wagon noted);
        apart = held.apart;
      }

  held_by : (c : Crossing) → list_any (λ (w : RefusedWagonsValue). w.is_lost) refused ≡ false → IsCrossing answers c → IsHeld seats refused c
  held_by c whole crossing =
      let moving = side_by_answers c.moved_in crossing.moving sides crossing.is_moving in
      let refusing = side_by_answers c.refused_in crossing.refusing sides crossing.is_refusing in
      let its : crossing.moving ≡ moving.its = some_same crossing.moving moving.its (sym crossing.is_moving ∙ moving.is_its) in
      let other : crossing.refusing ≡ refusing.its = some_same crossing.refusing refusing.its (sym crossing.is_refusing ∙ refusing.is_its) in
      let counted : list_any (is_out_of_step c.wagon) refusing.its.counts ≡ true = ap (λ (a : FileAnswers). list_any (is_out_of_step c.wagon) a.counts) (sym other) ∙ crossing.refused in
      record {
        moving = moving.its.seat;
        is_moving = moving.is_seat;
        moved = ap (λ (a : FileAnswers). list_any (is_moved_by c.wagon) a.seat.receipts) (sym its) ∙ crossing.moved;
        refusing = refusing.wagons;
        is_refusing = refusing.are_wagons;
        noted = refusing.noted.all (not_lost refused c.refused_in refusing.wagons whole refusing.are_wagons) c.wagon
            (or_first (list_any (is_out_of_step c.wagon) refusing.its.counts) (has_wagon c.wagon no_wagon) counted);
        apart = crossing.apart;
      }

  some_crossing : (found : Option Crossing) → IfSome found (IsHeld seats refused) → IfSome found (IsCrossing answers)
  some_crossing None held = tt
  some_crossing (Some c) held = crossing_by c held

  pub first_crossing : (found : Option Crossing) (lost : Bool) → IsFirstHeld seats refused found → lost ≡ list_any (λ (w : RefusedWagonsValue). w.is_lost) refused → IsFirstCrossing answers found lost
  first_crossing found lost first is = record {
    holds = some_crossing found first.holds;
    first = λ whole other crossing. first.first other (held_by other (sym is ∙ whole) crossing);
  }
