-- The types of command lines, by name.
use Rattle.std.specs.Prelude.{ℕ, nat_eq, List, [], ◌∷◌, find, codes, Result}
use Rattle.std.specs.Option.{ok_or}
use Rattle.std.specs.Cmp.Lexicographic.{pointwise}
use Rattle.line_fields.specs.declared.fault.LineFault.{LineFault}
use Rattle.line_fields.specs.declared.fault.LineFault.TheVariants.{UnknownType}
use Rattle.line_fields.specs.declared.line_type.LineType.{LineType}
use Rattle.line_fields.specs.declared.line_type.LineType.TheVariants.{Release, Departure, YardArrival, YardDeparture, Exception, Arrival, Delivery, Order, Withdraw, Begin, Plan, Commit, Sheet, Network}

-- the name as it stands in a line
unfoldable pub type_name : LineType → List ℕ
type_name Release = codes "release"
type_name Departure = codes "departure"
type_name YardArrival = codes "yard_arrival"
type_name YardDeparture = codes "yard_departure"
type_name Exception = codes "exception"
type_name Arrival = codes "arrival"
type_name Delivery = codes "delivery"
type_name Order = codes "order"
type_name Withdraw = codes "withdraw"
type_name Begin = codes "begin"
type_name Plan = codes "plan"
type_name Commit = codes "commit"
type_name Sheet = codes "sheet"
type_name Network = codes "network"

abbrev pub line_types : List LineType
line_types =
    Release ∷ Departure ∷ YardArrival ∷ YardDeparture ∷ Exception ∷ Arrival ∷ Delivery
    ∷ Order ∷ Withdraw ∷ Begin ∷ Plan ∷ Commit ∷ Sheet ∷ Network ∷ []

-- the type of that name
unfoldable pub line_type_of : List ℕ → Result LineType LineFault
line_type_of name = ok_or (find (λ line_type. pointwise nat_eq (type_name line_type) name) line_types) UnknownType
