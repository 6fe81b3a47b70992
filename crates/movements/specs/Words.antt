-- What is said of a movement and of an order.
use Rattle.std.specs.Prelude.{ℕ, ◌==◌, nat_lt, if◌then◌else◌, List, [], ◌++◌, codes, decimal}
use Rattle.movements.specs.declared.need.OrderNeed.{OrderNeed}
use Rattle.movements.specs.declared.outlook.Outlook.{Outlook}
use Rattle.movements.specs.declared.outlook.Outlook.TheVariants.{NoWay, Late, InTime}

abbrev pub late_words : (minutes : ℕ) → List ℕ
late_words minutes = codes "late by " ++ decimal minutes ++ codes " min"

abbrev pub spare_words : (minutes : ℕ) → List ℕ
spare_words minutes = decimal minutes ++ codes " min to spare"

-- whether a wagon will be in time, and by how many minutes
abbrev pub outlook_words : Outlook → List ℕ
outlook_words NoWay = codes "no way"
outlook_words (Late minutes) = late_words minutes
outlook_words (InTime minutes) = spare_words minutes

-- the same without the minutes
abbrev pub outlook_word : Outlook → List ℕ
outlook_word NoWay = codes "no way"
outlook_word (Late minutes) = codes "late"
outlook_word (InTime minutes) = codes "in time"

-- An order is short where wagons are missing, and past where it is open past its latest moment. Another is filled where all its
-- wagons have been delivered, in time or late; else those that haven't are promised.
abbrev pub order_state : OrderNeed → List ℕ
order_state need =
    if need.is_past then (if nat_lt 0 need.missing then codes "short and past" else codes "past")
    else if nat_lt 0 need.missing then codes "short"
    else if nat_lt 0 need.late then codes "filled late"
    else if need.filled == need.wanted then codes "filled"
    else codes "promised"

-- behind the state, by how many minutes the order was filled late
abbrev pub late_behind : OrderNeed → List ℕ
late_behind need = if nat_lt 0 need.late then codes " by " ++ decimal need.late ++ codes " min" else []

-- the state, for people
abbrev pub order_words : OrderNeed → List ℕ
order_words need = order_state need ++ late_behind need
