use Rattle.std.proofs.Common.{◌≡◌, nat_eq, false, refl}
use Rattle.std.specs.Cmp.Lexicographic.{pointwise}
use Rattle.line_fields.specs.declared.line_type.LineType.{LineType}
use Rattle.line_fields.specs.declared.line_type.LineType.TheVariants.{Release, Departure, YardArrival, YardDeparture, Exception, Arrival, Delivery, Order, Withdraw, Begin, Plan, Commit, Sheet, Network}
use Rattle.line_fields.specs.LineType.{type_name, line_type_of}
use Rattle.line_fields.proofs.Names.{differs}
use Rattle.line_fields.proofs.line_type.LineType.named.Goals as goal

pub returns-in_default-clause-meaning : goal.returns-in_default-clause-meaning
unfolding type_name line_type_of
returns-in_default-clause-meaning c =
    let name = c.args.name.now in
    let other : (t : LineType) → (name ≡ type_name t → ⊥) → pointwise nat_eq (type_name t) name ≡ false = λ t not. differs (type_name t) name not in
    rw (
      other Release c.in_default.not-release,
      other Departure c.in_default.not-departure,
      other YardArrival c.in_default.not-yard_arrival,
      other YardDeparture c.in_default.not-yard_departure,
      other Exception c.in_default.not-exception,
      other Arrival c.in_default.not-arrival,
      other Delivery c.in_default.not-delivery,
      other Order c.in_default.not-order,
      other Withdraw c.in_default.not-withdraw,
      other Begin c.in_default.not-begin,
      other Plan c.in_default.not-plan,
      other Commit c.in_default.not-commit,
      other Sheet c.in_default.not-sheet,
      other Network c.in_default.not-network,
    ) refl
