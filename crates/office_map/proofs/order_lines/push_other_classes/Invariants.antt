use Rattle.std.proofs.Common.{◌≡◌, ◌++◌, take, string_bytes}
use Rattle.std.specs.List.{flat_map}
use Rattle.office_map.specs.Orders.{or_class}
use Rattle.office_map.proofs.order_lines.push_other_classes.Given as goal

abbrev pub invariant-loop-class : goal.invariant-loop-class
invariant-loop-class l = string_bytes l.text ≡ string_bytes l.initial.text ++ flat_map or_class (take l.class-index l.classes)
