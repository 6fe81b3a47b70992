use Rattle.std.proofs.Common.{◌≡◌, ◌≤◌, ◌*◌, take}
use Rattle.std.specs.List.{sum}
use Rattle.price_checker.proofs.checker.total.Given as goal

abbrev pub invariant-loop-price : goal.invariant-loop-price
invariant-loop-price l = (l.total ≡ sum (take l.price-index l.prices)) × (l.total ≤ l.price-index * 18_446_744_073_709_551_616)
