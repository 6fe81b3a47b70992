use Rattle.std.proofs.Common.{◌≡◌, ◌++◌, map, take, string_bytes}
use Rattle.dispatch_sheet.specs.inner.Pushed.{listed}
use Rattle.dispatch_sheet.proofs.Lists.{later}
use Rattle.dispatch_sheet.proofs.wagon_list.push_wagons.Given as goal

abbrev pub invariant-loop-number : goal.invariant-loop-number
invariant-loop-number l = record {
  text : string_bytes l.text ≡ string_bytes l.initial.text ++ listed l.fn.earlier (map (λ number. number ++ l.fn.mark) (take l.number-index l.wagons));
  earlier : l.earlier ≡ later l.fn.earlier (map (λ number. number ++ l.fn.mark) (take l.number-index l.wagons));
}
