-- A receipt that is lost at the first seat, or at one behind it, is lost.
use Rattle.std.proofs.Common.{◌≡◌, ℕ, zero, suc, List, ◌∷◌, refl, sym, subst}
use Rattle.std.specs.Prelude.{IfSome, Option, None, Some}
use Rattle.move_messages.specs.declared.event.Event.{Event}
use Rattle.sessions.specs.Closing.{IsLost}
use Rattle.sessions.specs.Seat.{SeatValue}
use Rattle.sessions.specs.declared.receipt.Receipt.{Receipt}
use Rattle.sessions.specs.inner.Others.{IsOther}

pub lost_first : (history : List Event) (seats : List SeatValue) (seat : SeatValue) (others : List SeatValue) (receipts : List Receipt) (number entry : ℕ) → seats ≡ seat ∷ others → receipts ≡ seat.receipts → number ≡ seat.number
    → IsOther history receipts entry → IsLost history seats number entry
lost_first history seats seat others receipts number entry is same its h =
    let o = subst (λ (rs : List Receipt). IsOther history rs entry) same h in
    subst (λ (ss : List SeatValue). IsLost history ss number entry) (sym is) (record { index = zero; seat = seat; is_seat = refl; its_number = sym its; which = o.which; receipt = o.receipt; is_receipt = o.is_receipt; its_entry = o.its_entry; differs = o.differs })

later : (history : List Event) (seat : SeatValue) (others : List SeatValue) (number entry : ℕ) → IsLost history others number entry → IsLost history (seat ∷ others) number entry
later history seat others number entry h = record { index = suc h.index; seat = h.seat; is_seat = h.is_seat; its_number = h.its_number; which = h.which; receipt = h.receipt; is_receipt = h.is_receipt; its_entry = h.its_entry; differs = h.differs }

pub lost_later : (history : List Event) (seats : List SeatValue) (seat : SeatValue) (others : List SeatValue) (found : Option (ℕ × ℕ)) → seats ≡ seat ∷ others
    → IfSome found (λ lost. IsLost history others lost.0 lost.1) → IfSome found (λ lost. IsLost history seats lost.0 lost.1)
lost_later history seats seat others None is h = tt
lost_later history seats seat others (Some lost) is h = subst (λ (ss : List SeatValue). IsLost history ss lost.0 lost.1) (sym is) (later history seat others lost.0 lost.1 h)
