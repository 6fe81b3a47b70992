-- The seats of a shared book that was just opened.
use Rattle.std.proofs.Common.{◌≡◌, ℕ, zero, suc, [], ◌∷◌, All, length, refl, arith}
use Rattle.std.proofs.lemmas.List.{length-append}
use Rattle.std.proofs.lemmas.List.Elements.{All-nil, All-push}
use Rattle.sessions.specs.Seat.{SeatValue, count_of, new_seat, new_seats}

pub length-new_seats : (n : ℕ) → length (new_seats n) ≡ n
length-new_seats zero = refl
length-new_seats (suc n) = omega (arith, length-append (new_seats n) (new_seat (suc n) ∷ []), length-new_seats n)

-- none of them has a receipt
pub without_receipt : (n : ℕ) → All (λ (seat : SeatValue). count_of seat ≡ 0) (new_seats n)
without_receipt zero = All-nil (λ (seat : SeatValue). count_of seat ≡ 0)
without_receipt (suc n) = All-push (λ (seat : SeatValue). count_of seat ≡ 0) (new_seats n) (new_seat (suc n)) (without_receipt n) refl
